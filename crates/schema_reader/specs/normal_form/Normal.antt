-- The normal form written a byte at a time into lent cells.
use Rattle.std.specs.Prelude.{Bool, List, ◌∷◌, ◌++◌, ◌≡◌, ℕ, ◌+◌, ◌≤◌, length, drop, set, Option, Some, None}
use Rattle.std.specs.List.{cons_option}
use Rattle.schema_reader.specs.declared.normal_form.NormalStep.{NormalStep}
use Rattle.schema_spec.specs.Records.{normal_from, normal}

-- the byte b gives a byte, or none, and goes on so
pub record Steps (due : ℕ) (run : Bool) (b : ℕ) (r : NormalStep) : Type 0 where
  pub says : (bs : List ℕ) → normal_from due run (b ∷ bs) ≡ cons_option r.byte (normal_from r.due r.run bs)

-- a byte stored at n, or none
abbrev pub StoredAs : List ℕ → List ℕ → ℕ → Option ℕ → ℕ → Type 0
StoredAs cells cells' n (Some b) r = (r ≡ n + 1) × (cells' ≡ set cells n b)
StoredAs cells cells' n None r = (r ≡ n) × (cells' ≡ cells)

pub record Stored (cells cells' : List ℕ) (n : ℕ) (byte : Option ℕ) (r : ℕ) : Type 0 where
  pub says : StoredAs cells cells' n byte r

-- the normal form of a text, in the first cells
pub record Normalized (s cells cells' : List ℕ) (r : ℕ) : Type 0 where
  pub size : r ≡ length (normal s)
  pub short : r ≤ length s
  pub wrote : cells' ≡ normal s ++ drop r cells
