-- The tests of the count's value and of the root's, by the bytes in the extract.
use mathlib.Core.Bool.{Bool, false, ◌&&◌}
use mathlib.Core.List.{List, [], ◌∷◌}
use mathlib.Core.Path.{◌≡◌, refl, sym, ap, ap₂, ◌∙◌}
use Prim.Native.Nat.{ℕ, ◌+◌, ◌≤◌}
use native.Mathlib.Omega.{arith}
use borrow.Author.Tests.{eq-eqb, ne_eqb}
use lib.Dec.{eqb}
use lib.ListN.{length, get_or}
use Rattle.extract_reader.specs.field_ends.Ends.{is_root, is_count}
use Rattle.extract_reader.specs.field_ends.Values.{no-element, five, value-long, value-at, in_two_lem, number_in}
use Rattle.extract_reader.specs.field_tests.TestLaws.{and-nothing}
use Rattle.extract_spec.specs.Reading.{count_item, no_item, in_two, element_value, count_value}
use Rattle.text_spec.specs.Lists.{part}

no-count : (v : List ℕ) → (length v ≡ 2 → ⊥) → count_value v ≡ no_item
no-count [] n = refl
no-count (a ∷ []) n = refl
no-count (a ∷ b ∷ []) n = absurd (n refl)
no-count (a ∷ b ∷ c ∷ w) n = refl

two : (v : List ℕ) → length v ≡ 2 → count_value v ≡ count_item (in_two (get_or v 0 0) (get_or v 1 0))
two [] l = absurd (omega arith)
two (a ∷ []) l = absurd (omega arith)
two (a ∷ b ∷ []) l = refl
two (a ∷ b ∷ c ∷ w) l = absurd (omega arith)

-- ---- a count
module _ (bs : List ℕ) (at rows size : ℕ) (inside : at + 3 + size ≤ length bs) where
  abbrev counted : Bool
  counted = is_count rows (eqb (at + 3 + size) (length bs)) (count_value (part (at + 3) size bs))

  pub count-misfit : (size ≡ 2 → ⊥) → false ≡ counted
  count-misfit n = sym (ap (is_count rows (eqb (at + 3 + size) (length bs))) (no-count (part (at + 3) size bs) (λ l. n (sym (value-long bs (at + 3) size inside) ∙ l))))

  module _ (z : size ≡ 2) where
    count-tested : counted ≡ (eqb (at + 3 + 2) (length bs) && eqb (number_in bs (at + 3)) rows)
    count-tested =
        ap (is_count rows (eqb (at + 3 + size) (length bs)))
        (two (part (at + 3) size bs) (value-long bs (at + 3) size inside ∙ z)
        ∙ ap count_item (in_two_lem bs (at + 3) size inside 0 (at + 3) (at + 3 + 1) (omega arith) (omega arith) (omega arith)))
        ∙ ap (λ (k : ℕ). eqb (at + 3 + k) (length bs) && eqb (number_in bs (at + 3)) rows) z

    pub count-not-last : (at + 3 + 2 ≡ length bs → ⊥) → false ≡ counted
    count-not-last n = sym (count-tested ∙ ap (λ (b : Bool). b && eqb (number_in bs (at + 3)) rows) (ne_eqb (at + 3 + 2) (length bs) n))

    pub count-last : at + 3 + 2 ≡ length bs → (n : ℕ) → n ≡ number_in bs (at + 3) → eqb n rows ≡ counted
    count-last l n q = ap (λ (k : ℕ). eqb k rows) q ∙ sym (count-tested ∙ ap (λ (b : Bool). b && eqb (number_in bs (at + 3)) rows) (eq-eqb (at + 3 + 2) (length bs) l))

-- ---- the root
module _ (bs : List ℕ) (size : ℕ) (inside : 3 + size ≤ length bs) where
  pub root-misfit : (size ≡ 5 → ⊥) → false ≡ is_root (element_value (part 3 size bs))
  root-misfit n = sym (ap is_root (no-element (part 3 size bs) (λ l. n (sym (value-long bs 3 size inside) ∙ l))))

  module _ (z : size ≡ 5) where
    abbrev tested : ℕ → ℕ → ℕ → Bool
    tested number parent e = eqb parent 0 && (eqb number 0 && eqb e 0)

    root-tested : is_root (element_value (part 3 size bs)) ≡ tested (number_in bs 3) (in_two (get_or bs 5 0) (get_or bs 6 0)) (get_or bs 7 0)
    root-tested =
        ap is_root (five (part 3 size bs) (value-long bs 3 size inside ∙ z))
        ∙ ap₂ (λ (a b : ℕ). tested a b (get_or (part 3 size bs) 4 0)) (in_two_lem bs 3 size inside 0 3 4 (omega arith) (omega arith) (omega arith))
        (in_two_lem bs 3 size inside 2 5 6 (omega arith) (omega arith) (omega arith))
        ∙ ap (tested (number_in bs 3) (in_two (get_or bs 5 0) (get_or bs 6 0))) (value-at bs 3 size inside 4 7 (omega arith) (omega arith))

    module _ (number parent : ℕ) (n : number ≡ number_in bs 3) (p : parent ≡ in_two (get_or bs 5 0) (get_or bs 6 0)) where
      root_by : tested number parent (get_or bs 7 0) ≡ is_root (element_value (part 3 size bs))
      root_by = ap₂ (λ (a b : ℕ). tested a b (get_or bs 7 0)) n p ∙ sym root-tested

      pub root-accepted : number ≡ 0 → parent ≡ 0 → (r : Bool) → r ≡ eqb (get_or bs 7 0) 0 → r ≡ is_root (element_value (part 3 size bs))
      root-accepted a b r q = q ∙ sym (ap₂ (λ (x y : Bool). x && (y && eqb (get_or bs 7 0) 0)) (eq-eqb parent 0 b) (eq-eqb number 0 a)) ∙ root_by

    pub root-numbered : (number : ℕ) → number ≡ number_in bs 3 → (number ≡ 0 → ⊥) → false ≡ is_root (element_value (part 3 size bs))
    root-numbered number n x =
        let parent = in_two (get_or bs 5 0) (get_or bs 6 0) in
        sym (ap (λ (b : Bool). eqb parent 0 && (b && eqb (get_or bs 7 0) 0)) (ne_eqb number 0 x) ∙ and-nothing (eqb parent 0)) ∙ root_by number parent n refl

    pub root-under : (parent : ℕ) → parent ≡ in_two (get_or bs 5 0) (get_or bs 6 0) → (parent ≡ 0 → ⊥) → false ≡ is_root (element_value (part 3 size bs))
    root-under parent p x = sym (ap (λ (b : Bool). b && (eqb (number_in bs 3) 0 && eqb (get_or bs 7 0) 0)) (ne_eqb parent 0 x)) ∙ root_by (number_in bs 3) parent refl p
