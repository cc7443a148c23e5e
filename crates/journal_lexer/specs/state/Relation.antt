-- What the code's state says of the definition's mode and event.
use Rattle.std.specs.Prelude.{cond, List, [], ◌⊎◌, ◌≡◌, ℕ, suc, ◌+◌, ◌-◌, ◌≤◌, ◌<◌, length}
use Rattle.std.specs.Prelude.{Option, None}
use Rattle.journal_lexer.specs.declared.entities.EntityRest.{EntityRest}
use Rattle.journal_lexer.specs.declared.entities.EntityRest.TheVariants.{All, Ended}
use Rattle.journal_lexer.specs.declared.kinds.ByteKind.{ByteKind}
use Rattle.journal_lexer.specs.declared.state.Event.{Event as CodeEvent}
use Rattle.journal_lexer.specs.declared.state.Event.TheVariants.{Quiet, Starts, Empties, Ends, Runs}
use Rattle.journal_lexer.specs.declared.state.Lex.{Lex}
use Rattle.journal_lexer.specs.declared.state.Mode.{Mode as CodeMode}
use Rattle.journal_lexer.specs.declared.state.Mode.TheVariants.{Between, Blanks, Solid, AfterBracket, AfterBrackets, InEntity, Opened, InName, AfterName, AfterSlash, Ending, InEndName, AfterEndName, Stopped}
use Rattle.journal_lexer.specs.declared.state.Places.{Places}
use Rattle.journal_lexer.specs.entities.Rests.{rests_of}
use Rattle.journal_lexer.specs.kinds.Kinds.{kind_of}
use Rattle.journal_lexer.specs.state.Places.{no_place, run_of, HasSolid, first_noted, Lent}
use Rattle.text.specs.declared.name_words.Name.{Name}
use Rattle.text.specs.name_words.Words.{words_of, Spells}
use Rattle.text_spec.specs.Bytes.{is_foreign}
use Rattle.token_spec.specs.Lexer.{Mode, between, in_data, in_entity, opened, in_name, after_name, after_slash, ending, in_end_name, after_end_name, stopped, Event, quiet, starts, empties, ends, runs, Lexed, lex}

-- the words of a name and how many bytes it has
pub record Holds (w : Name) (count : ℕ) (n : List ℕ) : Type 0 where
  pub spelt : Spells w n
  pub counted : count ≡ length n

-- the code's mode, with a name, its count, the rest of an entity and lent places, stands for one of the definition's
abbrev pub Means : CodeMode → Name → ℕ → EntityRest → Places → Mode → Type 0
Means Between w k x p m = m ≡ between
Means Blanks w k x p m = (m ≡ in_data (run_of p) 0) × (p.solid_at ≡ None)
Means Solid w k x p m = (m ≡ in_data (run_of p) 0) × HasSolid p
Means AfterBracket w k x p m = (m ≡ in_data (run_of p) 1) × HasSolid p
Means AfterBrackets w k x p m = (n : ℕ) × (m ≡ in_data (run_of p) (suc (suc n))) × HasSolid p
Means InEntity w k x p m = (m ≡ in_entity (rests_of x) p.at (run_of p)) × HasSolid p × (x ≡ Ended → ⊥) × (p.saved ≤ p.at)
Means Opened w k x p m = m ≡ opened p.at
Means InName w k x p m = (n : List ℕ) × (m ≡ in_name p.at n) × Holds w k n
Means AfterName w k x p m = (n : List ℕ) × (m ≡ after_name p.at n) × Holds w k n
Means AfterSlash w k x p m = (n : List ℕ) × (m ≡ after_slash p.at n) × Holds w k n
Means Ending w k x p m = m ≡ ending p.at
Means InEndName w k x p m = (n : List ℕ) × (m ≡ in_end_name p.at n) × Holds w k n
Means AfterEndName w k x p m = (n : List ℕ) × (m ≡ after_end_name p.at n) × Holds w k n
Means Stopped w k x p m = m ≡ stopped p.at

-- the state l stands for a mode as if it were in the mode s
abbrev pub MeansAs : CodeMode → Lex → Places → Mode → Type 0
MeansAs s l p m = Means s l.name l.count l.rest p m

abbrev pub MeansMode : Lex → Places → Mode → Type 0
MeansMode l p m = MeansAs l.mode l p m

abbrev pub Tells : CodeEvent → Name → Places → Event → Type 0
Tells Quiet w p e = e ≡ quiet
Tells Starts w p e = (n : List ℕ) × (e ≡ starts n p.at) × Spells w n
Tells Empties w p e = (n : List ℕ) × (e ≡ empties n p.at) × Spells w n
Tells Ends w p e = (n : List ℕ) × (e ≡ ends n p.at) × Spells w n
Tells Runs w p e = e ≡ runs (run_of p) (p.at - p.start)

abbrev pub TellsEvent : Lex → Places → Event → Type 0
TellsEvent l p e = Tells l.event l.name p e

-- an event leaves the lexer between tokens or after a `<`
abbrev pub Silent : Lex → Type 0
Silent l = (l.event ≡ Quiet) ⊎ ((l.mode ≡ Between) ⊎ (l.mode ≡ Opened))

-- the first foreign byte so far, after the byte b at the place k
abbrev pub first_foreign : Option ℕ → ℕ → ℕ → Option ℕ
first_foreign x b k = cond (is_foreign b) (first_noted x k) x

-- what a byte function is handed: the lent places, a byte and its kind, and there is room for one place more
pub record Handed (l : Lex) (p : Places) (b : ℕ) (c : ByteKind) : Type 0 where
  pub room : l.place < no_place
  pub lent : Lent l.place p
  pub byte : b < 256
  pub kind : c ≡ kind_of b

-- the state r and the places q, after the byte b at l and p, stand for the definition's x
pub record Meant (l : Lex) (p : Places) (b : ℕ) (r : Lex) (q : Places) (x : Lexed) : Type 0 where
  pub place : r.place ≡ l.place + 1
  pub mode : MeansMode r q x.mode
  pub event : TellsEvent r q x.event
  pub silent : Silent r
  pub foreign : q.foreign_at ≡ first_foreign p.foreign_at b l.place
  pub lent : Lent r.place q

-- The contract of every byte function: in this mode, the byte b is read as the definition reads it.
pub record Steps (mode : CodeMode) (l : Lex) (p : Places) (b : ℕ) (r : Lex) (q : Places) : Type 0 where
  pub meant : (m : Mode) → MeansAs mode l p m → Meant l p b r q (lex m l.place b)

abbrev pub initially : Lex
initially = record { place = 0; mode = Between; event = Quiet; rest = All; count = 0; name = words_of [] }

-- the state with one byte more
abbrev pub stepped : CodeMode → CodeEvent → Lex → Lex
stepped mode event l = record l { place = l.place + 1; mode = mode; event = event }

-- the same with another name and count
abbrev pub named : CodeMode → ℕ → Name → Lex → Lex
named mode count name l = record (stepped mode Quiet l) { count = count; name = name }

-- the same in an entity, of which this may still come
abbrev pub entered : EntityRest → Lex → Lex
entered rest l = record (stepped InEntity Quiet l) { rest = rest }

-- the same with another event
abbrev pub with_event : CodeEvent → Lex → Lex
with_event event l = record l { event = event }
