-- The header of a listing by its words and numbers.
use Rattle.std.specs.Prelude.{List, ◌++◌, ◌≡◌, ℕ}
use Rattle.std.proofs.Common.{append_assoc, ap, subst, ◌∙◌}
use Rattle.cells.specs.written_text.Written.{WrittenAt, written_then}
use Rattle.library_spec.specs.Listing.{decimal, line_feed, header}
use Rattle.listing_text.specs.parts.Parts.{NumberAt}
use Rattle.text_spec.specs.Lists.{bytes}

-- the words and numbers of the line, joined
module _ (a x b y c z d : List ℕ) where
  joined-4 : (a ++ x) ++ ((b ++ y) ++ ((c ++ z) ++ d)) ≡ a ++ (x ++ (b ++ (y ++ (c ++ (z ++ d)))))
  joined-4 =
      append_assoc a x ((b ++ y) ++ ((c ++ z) ++ d))
      ∙ ap (λ (l : List ℕ). a ++ (x ++ l)) (append_assoc b y ((c ++ z) ++ d) ∙ ap (λ (l : List ℕ). b ++ (y ++ l)) (append_assoc c z d))

pub header-written : {w₀ w₁ w₂ w₃ w₄ : List ℕ} {a b c d x y z : ℕ} → NumberAt w₀ 0 (bytes "selected ") x a w₁ → NumberAt w₁ a (bytes " kept ") y b w₂
    → NumberAt w₂ b (bytes " of ") z c w₃ → WrittenAt w₃ c line_feed d w₄ → WrittenAt w₀ 0 (header x y z) d w₄
header-written {w₀ = w₀} {w₄ = w₄} {d = d} {x = x} {y = y} {z = z} p q r s =
    subst (λ (l : List ℕ). WrittenAt w₀ 0 l d w₄) (joined-4 (bytes "selected ") (decimal x) (bytes " kept ") (decimal y) (bytes " of ") (decimal z) line_feed)
    (written_then p.written (written_then q.written (written_then r.written s)))
