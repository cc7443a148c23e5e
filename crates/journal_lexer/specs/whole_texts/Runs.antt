-- The first run of character data in a text that is judged by itself: where reading stops, and the size that is told there.
use Rattle.std.specs.Prelude.{cond, List, ◌≡◌, ℕ, ◌-◌, ◌≤◌, ◌<◌, eqb, ltb, length, None, ⊤}
use Rattle.journal_lexer.specs.declared.kinds.ByteKind.{ByteKind}
use Rattle.journal_lexer.specs.declared.state.Lex.{Lex}
use Rattle.journal_lexer.specs.declared.state.Mode.{Mode}
use Rattle.journal_lexer.specs.declared.state.Mode.TheVariants.{Blanks, Solid, AfterBracket, AfterBrackets, InEntity}
use Rattle.journal_lexer.specs.declared.state.Places.{Places}
use Rattle.journal_lexer.specs.kinds.Kinds.{KindTable}
use Rattle.journal_lexer.specs.loop_laws.Advance.{Stands, Ready}
use Rattle.journal_lexer.specs.state.Modes.{is_data_mode}
use Rattle.journal_lexer.specs.state.Places.{no_place, Lent}
use Rattle.token_spec.specs.Lexer.{between}

-- in character data or in an entity
abbrev pub RunMode : Mode → Type 0
RunMode Blanks = ⊤
RunMode Solid = ⊤
RunMode AfterBracket = ⊤
RunMode AfterBrackets = ⊤
RunMode InEntity = ⊤
RunMode m = ⊥

-- what reading is handed, before the first byte
pub record Fresh (text : List ℕ) (kinds : List ByteKind) (p : Places) : Type 0 where
  pub table : KindTable kinds
  pub short : length text < no_place
  pub lent : Lent 0 p
  pub foreign : p.foreign_at ≡ None

-- the run so far: one byte at least is read, if there is one
pub record Begun (text : List ℕ) (kinds : List ByteKind) (l : Lex) (p : Places) : Type 0 where
  pub ready : Ready text kinds l p
  pub stands : Stands text 0 between l p
  pub begun : 0 < length text → 0 < l.place

-- where reading stops: at the end, or where the run is over
pub record Come (text : List ℕ) (l : Lex) (p : Places) : Type 0 where
  pub inside : l.place ≤ length text
  pub lent : Lent l.place p
  pub stands : Stands text 0 between l p
  pub begun : 0 < length text → 0 < l.place
  pub over : l.place < length text → RunMode l.mode → ⊥

-- the size that is told at a place in a mode
abbrev pub size_at : ℕ → Places → ℕ → Mode → ℕ
size_at size p place mode = cond (ltb place size) 0 (cond (is_data_mode mode) (cond (eqb p.start 0) (size - p.saved) 0) 0)
