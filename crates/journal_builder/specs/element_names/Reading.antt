-- The words of names, and how long a name is.
use Rattle.std.specs.Prelude.{Bool, true, false, cond, List, [], ◌∷◌, ℕ, ◌≤◌, length, drop, get_or}
use Rattle.std.proofs.Common.{arith, length-drop}
use Rattle.text.specs.declared.name_words.Name.{Name}
use Rattle.text.specs.name_words.Words.{words}
use Rattle.text_spec.specs.Bytes.{continues_name}
use Rattle.text_spec.specs.Scans.{name_in, name_at}

-- the words of the name a
abbrev pub name_of : List Name → ℕ → Name
name_of names a = get_or names a (words 0 0 0 0)

name_in-short : (s : List ℕ) → length (name_in s) ≤ length s
name_in-short [] = omega arith
name_in-short (b ∷ s) = pick (continues_name b) (name_in-short s)
  where
    pick : (t : Bool) → length (name_in s) ≤ length s → length (cond t (b ∷ name_in s) []) ≤ length (b ∷ s)
    pick true l = omega arith
    pick false l = omega arith

-- a name is no longer than its text
pub name_at-short : (s : List ℕ) (p : ℕ) → length (name_at s p) ≤ length s
name_at-short s p = let l = name_in-short (drop p s) in omega (arith, length-drop p s)
