-- A text none of whose bytes fails refusal 3.
use Rattle.std.specs.Prelude.{Bool, true, false, not, ◌&&◌, ◌||◌, List, [], ◌∷◌, ◌≡◌, refl, ℕ}
use Rattle.text_spec.specs.Bytes.{is_foreign}
use Rattle.text_spec.specs.Lists.{any_of, all_of}

-- none is foreign where all pass
pub none-foreign : (w : List ℕ) → not (any_of is_foreign w) ≡ all_of (λ b. not (is_foreign b)) w
none-foreign [] = refl
none-foreign (b ∷ w) = pick (is_foreign b) (none-foreign w)
  where
    pick : (t : Bool) → not (any_of is_foreign w) ≡ all_of (λ b. not (is_foreign b)) w → not (t || any_of is_foreign w) ≡ (not t && all_of (λ b. not (is_foreign b)) w)
    pick true rest = refl
    pick false rest = rest
