-- Content models: what fits one, as a relation, and a form that computes.
use Rattle.std.specs.Prelude.{Bool, true, false, ◌&&◌, ◌||◌, List, [], ◌∷◌, ◌++◌, ℕ, eqb}

-- a particle over names of some kind: a name, two particles in a row, one of two, or one that may repeat or be absent
pub data Particle (A : Type 0) : Type 0 where
  named : A → Particle A
  sequence : Particle A → Particle A → Particle A
  choice : Particle A → Particle A → Particle A
  -- may it repeat, may it be absent
  repeated : Bool → Bool → Particle A → Particle A

-- "only `EMPTY`, `(#PCDATA)` (no star after it) or a children model"
pub data Content (A : Type 0) : Type 0 where
  empty : Content A
  pcdata : Content A
  children : Particle A → Content A

module _ {A : Type 0} where
  -- the names of a particle in their order; "each use of a name in a model counts"
  abbrev pub uses : Particle A → List A
  uses (named a) = a ∷ []
  uses (sequence p q) = uses p ++ uses q
  uses (choice p q) = uses p ++ uses q
  uses (repeated m n p) = uses p

  abbrev pub uses_in : Content A → List A
  uses_in empty = []
  uses_in pcdata = []
  uses_in (children p) = uses p

module _ {A B : Type 0} where
  abbrev pub rename_in : (A → B) → Particle A → Particle B
  rename_in f (named a) = named (f a)
  rename_in f (sequence p q) = sequence (rename_in f p) (rename_in f q)
  rename_in f (choice p q) = choice (rename_in f p) (rename_in f q)
  rename_in f (repeated m n p) = repeated m n (rename_in f p)

  abbrev pub rename_content : (A → B) → Content A → Content B
  rename_content f empty = empty
  rename_content f pcdata = pcdata
  rename_content f (children p) = children (rename_in f p)

-- These children fit this model (XML 1.0, 3.2.1): their elements in order match the particle. A model need not be deterministic.
pub data Fits : Particle ℕ → List ℕ → Type 0 where
  one : {a : ℕ} → Fits (named a) (a ∷ [])
  both : {p q : Particle ℕ} {u v : List ℕ} → Fits p u → Fits q v → Fits (sequence p q) (u ++ v)
  left : {p q : Particle ℕ} {w : List ℕ} → Fits p w → Fits (choice p q) w
  right : {p q : Particle ℕ} {w : List ℕ} → Fits q w → Fits (choice p q) w
  absent : {m : Bool} {p : Particle ℕ} → Fits (repeated m true p) []
  once : {m n : Bool} {p : Particle ℕ} {w : List ℕ} → Fits p w → Fits (repeated m n p) w
  again : {n : Bool} {p : Particle ℕ} {u v : List ℕ} → Fits p u → Fits (repeated true n p) v → Fits (repeated true n p) (u ++ v)

-- The computing form keeps a mark on each name that may be the last one read (a position automaton).
pub record Position : Type 0 where
  pub marked : Bool
  pub name : ℕ

abbrev pub position : Bool → ℕ → Position
position m a = record { marked = m; name = a }

abbrev pub unmarked : Particle ℕ → Particle Position
unmarked p = rename_in (position false) p

-- nothing at all fits
abbrev pub nullable : Particle Position → Bool
nullable (named a) = false
nullable (sequence p q) = nullable p && nullable q
nullable (choice p q) = nullable p || nullable q
nullable (repeated m n p) = n || nullable p

-- a marked name may be the last one of the particle
abbrev pub final : Particle Position → Bool
final (named a) = a.marked
final (sequence p q) = final q || (final p && nullable q)
final (choice p q) = final p || final q
final (repeated m n p) = final p

-- the marks after the child a; `begins` says that the particle may begin at this child
abbrev pub shift : Bool → Particle Position → ℕ → Particle Position
shift begins (named x) a = named (position (begins && eqb a x.name) x.name)
shift begins (sequence p q) a = sequence (shift begins p a) (shift (final p || (begins && nullable p)) q a)
shift begins (choice p q) a = choice (shift begins p a) (shift begins q a)
shift begins (repeated m n p) a = repeated m n (shift (begins || (m && final p)) p a)

-- how far the children read so far have come in a model: none yet, or those that left these marks
pub data Progress : Type 0 where
  at_start : Particle Position → Progress
  amid : Particle Position → Progress

abbrev pub started : Particle ℕ → Progress
started p = at_start (unmarked p)

abbrev pub advance : Progress → ℕ → Progress
advance (at_start p) a = amid (shift true p a)
advance (amid p) a = amid (shift false p a)

abbrev pub complete : Progress → Bool
complete (at_start p) = nullable p
complete (amid p) = final p

abbrev pub advance_all : Progress → List ℕ → Progress
advance_all q [] = q
advance_all q (a ∷ w) = advance_all (advance q a) w

unfoldable pub fits : Particle ℕ → List ℕ → Bool
fits p w = complete (advance_all (started p) w)
