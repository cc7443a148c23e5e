-- Where the lexer's state stands on the definition's way through a text, and what a loop over the bytes of some modes promises.
use Rattle.std.specs.Prelude.{List, ◌⊎◌, ◌≡◌, ℕ, zero, suc, ◌≤◌, ◌<◌, length, get_or, slice_index_or, Option, None}
use Rattle.journal_lexer.specs.declared.kinds.ByteKind.{ByteKind}
use Rattle.journal_lexer.specs.declared.kinds.ByteKind.TheVariants.{Letter}
use Rattle.journal_lexer.specs.declared.state.Lex.{Lex}
use Rattle.journal_lexer.specs.declared.state.Mode.{Mode as CodeMode}
use Rattle.journal_lexer.specs.declared.state.Mode.TheVariants.{Between, Opened}
use Rattle.journal_lexer.specs.declared.state.Places.{Places}
use Rattle.journal_lexer.specs.kinds.Kinds.{KindTable}
use Rattle.journal_lexer.specs.run_laws.Passes.{Passes}
use Rattle.journal_lexer.specs.state.Places.{no_place, Lent}
use Rattle.journal_lexer.specs.state.Relation.{MeansMode, TellsEvent, Silent, first_foreign}
use Rattle.token_spec.specs.Lexer.{Mode, Event}

-- the first foreign byte below a place
unfoldable pub foreign_below : List ℕ → ℕ → Option ℕ
foreign_below text zero = None
foreign_below text (suc j) = first_foreign (foreign_below text j) (get_or text j 0) j

-- the state l and the places p stand where the definition has come to from the place k and the mode m, with one event at most
pub record Stands (text : List ℕ) (k : ℕ) (m : Mode) (l : Lex) (p : Places) : Type 0 where
  pub mode : Mode
  pub event : Event
  pub way : Passes text k m l.place mode event
  pub means : MeansMode l p mode
  pub told : TellsEvent l p event
  pub silent : Silent l
  pub foreign : p.foreign_at ≡ foreign_below text l.place

-- a state and places that stand for some mode
pub record Valid (l : Lex) (p : Places) : Type 0 where
  pub mode : Mode
  pub means : MeansMode l p mode

-- what a loop is handed
pub record Ready (text : List ℕ) (kinds : List ByteKind) (l : Lex) (p : Places) : Type 0 where
  pub table : KindTable kinds
  pub short : length text < no_place
  pub inside : l.place ≤ length text
  pub lent : Lent l.place p
  pub valid : Valid l p

-- sets of modes
abbrev pub never : CodeMode → Type 0
never mode = ⊥

abbrev pub only : CodeMode → CodeMode → Type 0
only x mode = mode ≡ x

abbrev pub either : (CodeMode → Type 0) → (CodeMode → Type 0) → CodeMode → Type 0
either f g mode = f mode ⊎ g mode

-- a mode in which no event ends
pub record Lasting (mode : CodeMode) : Type 0 where
  pub not_between : mode ≡ Between → ⊥
  pub not_opened : mode ≡ Opened → ⊥

-- bytes were read, or there was none to read in the modes f
pub data Progress (f : CodeMode → Type 0) (text : List ℕ) (l r : Lex) : Type 0 where
  moved : l.place < r.place → Progress f text l r
  stayed : r ≡ l → (l.place < length text → f l.mode → ⊥) → Progress f text l r

-- from l and p to r and q the code has gone as the definition goes, and not stopped in a mode of f
pub record Advance (f : CodeMode → Type 0) (text : List ℕ) (l : Lex) (p : Places) (r : Lex) (q : Places) : Type 0 where
  pub inside : r.place ≤ length text
  pub lent : Lent r.place q
  pub valid : Valid r q
  pub stands : (k : ℕ) (m : Mode) → Stands text k m l p → Stands text k m r q
  pub progress : Progress f text l r

-- the byte at the lexer's place is there
pub record Looked (text : List ℕ) (kinds : List ByteKind) (l : Lex) (p : Places) : Type 0 where
  pub ready : Ready text kinds l p
  pub more : l.place < length text
  pub byte : get_or text l.place 0 < 256

abbrev pub byte_at : List ℕ → Lex → ℕ
byte_at text l = get_or text l.place 0

abbrev pub kind_at : List ℕ → List ByteKind → Lex → ByteKind
kind_at text kinds l = slice_index_or kinds (byte_at text l) Letter
