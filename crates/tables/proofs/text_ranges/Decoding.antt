-- A range inside the text by its lengths: it is copied, or decoded.
use mathlib.Core.Bool.{Bool, true, false, not, ◌&&◌, ◌||◌}
use mathlib.Core.List.{List}
use mathlib.Core.Option.{Option, none, some}
use mathlib.Core.Path.{◌≡◌, refl, ap, ◌∙◌}
use Prim.Native.Nat.{ℕ, zero, suc, ◌+◌, ◌-◌, ◌≤◌}
use native.Mathlib.Omega.{arith}
use borrow.Author.Tests.{ne_eqb}
use lib.Dec.{eqb, leb, eqb→eq, leb→le}
use lib.ListN.{length, take, drop, length-take, length-drop}
use Rattle.table_laws.specs.passes.Texts.{passes, range_passes, range_decodes}
use Rattle.table_spec.specs.Tables.{is_size}
use Rattle.text_laws.specs.Tests.{passed, and_cases}
use Rattle.text_spec.specs.Lists.{part, all_of, value_or}
use Rattle.token_laws.specs.Texts.{sized-text, text-bounds}
use Rattle.token_spec.specs.Texts.{decoded_size}

-- a range that passes ends inside the text
pub range_inside : (lent : List ℕ) (start size : ℕ) → range_passes lent start size ≡ true → start + size ≤ length lent
unfolding range_passes
range_inside lent start size e =
    let c = and_cases (leb start (length lent)) (eqb (length (part start size lent)) size && all_of passes (part start size lent)) (passed e) in
    let d = and_cases (eqb (length (part start size lent)) size) (all_of passes (part start size lent)) c.1 in
    let s = leb→le start (length lent) c.0 in
    let n = eqb→eq (length (part start size lent)) size d.0 in
    omega (arith, s, simp (length-take, length-drop) at n)

-- no text decodes to no character
no_zero : (w : List ℕ) → is_size 0 (decoded_size w) ≡ false
no_zero w = pick (decoded_size w) refl
  where
    pick : (o : Option ℕ) → decoded_size w ≡ o → is_size 0 o ≡ false
    pick none e = refl
    pick (some m) e =
        let t = sized-text w m e in
        ne_eqb m 0 (λ z. omega (arith, (text-bounds t.0).0, t.1))

-- how a range is decoded: by its lengths, and by the size that is told, which is 0 where there is none
sized : (decoded : ℕ) (o : Option ℕ) → (decoded ≡ 0 → is_size 0 o ≡ false) → is_size decoded o ≡ (not (eqb decoded 0) && eqb (value_or 0 o) decoded)
sized zero none h = refl
sized (suc d) none h = simp (ne_eqb (suc d) 0 (λ e. omega arith), ne_eqb 0 (suc d) (λ e. omega arith))
sized zero (some m) h = h refl
sized (suc d) (some m) h = simp (ne_eqb (suc d) 0 (λ e. omega arith))

pub range-decoded : (lent : List ℕ) (start size decoded : ℕ)
    → range_decodes lent start size decoded ≡ (eqb decoded size || (not (eqb decoded 0) && eqb (value_or 0 (decoded_size (take (start + size - start) (drop start lent)))) decoded))
unfolding range_decodes
range-decoded lent start size decoded =
    let w : size ≡ start + size - start = omega arith in
    ap (λ (k : ℕ). eqb decoded size || is_size decoded (decoded_size (take k (drop start lent)))) w
    ∙ ap (λ (b : Bool). eqb decoded size || b) (sized decoded (decoded_size (take (start + size - start) (drop start lent))) (λ e. no_zero (take (start + size - start) (drop start lent))))
