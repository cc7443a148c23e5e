-- A range by whether a byte in it fails 3.
use mathlib.Core.Bool.{Bool, true, false, not, ◌&&◌}
use mathlib.Core.List.{List}
use mathlib.Core.Path.{◌≡◌, refl, sym, ap, ◌∙◌}
use Prim.Native.Nat.{ℕ, ◌+◌, ◌-◌, ◌≤◌}
use native.Mathlib.Omega.{arith}
use borrow.Author.Tests.{eq-eqb, ne_eqb, leb-true, leb-false}
use lib.Dec.{eqb, leb}
use lib.ListN.{length, take, drop, length-take, length-drop}
use Rattle.table_laws.specs.passes.Texts.{passes, range_passes}
use Rattle.text.specs.foreign_bytes.Laws.{none-foreign}
use Rattle.text_spec.specs.Bytes.{is_foreign}
use Rattle.text_spec.specs.Lists.{part, all_of, any_of}

-- ---- a range
module _ (lent : List ℕ) (start size : ℕ) where
  abbrev tested : Bool
  tested = leb size (length lent - start) && not (any_of is_foreign (take (start + size - start) (drop start lent)))

  inside : start ≤ length lent → (eqb (length (part start size lent)) size && all_of passes (part start size lent)) ≡ tested
  inside l = by (leb size (length lent - start)) refl
    where
      by : (b : Bool) → leb size (length lent - start) ≡ b → (eqb (length (part start size lent)) size && all_of passes (part start size lent)) ≡ (b && not (any_of is_foreign (take (start + size - start) (drop start lent))))
      by true e =
          let m = leb-true size (length lent - start) e in
          let w : start + size - start ≡ size = omega arith in
          let n : length (part start size lent) ≡ size = simp (length-take, length-drop) (omega arith) in
          ap (λ (b : Bool). b && all_of passes (part start size lent)) (eq-eqb (length (part start size lent)) size n)
          ∙ sym (none-foreign (take (start + size - start) (drop start lent)) ∙ ap (λ (k : ℕ). all_of passes (take k (drop start lent))) w)
      by false e =
          let m = leb-false size (length lent - start) e in
          ap (λ (b : Bool). b && all_of passes (part start size lent))
          (ne_eqb (length (part start size lent)) size (λ q. omega (arith, simp (length-take, length-drop) at q)))

  -- the tests in their order
  pub range-tested : range_passes lent start size ≡ (leb start (length lent) && tested)
  unfolding range_passes
  range-tested = by (leb start (length lent)) refl
    where
      by : (b : Bool) → leb start (length lent) ≡ b → (b && (eqb (length (part start size lent)) size && all_of passes (part start size lent))) ≡ (b && tested)
      by true e = inside (leb-true start (length lent) e)
      by false e = refl
