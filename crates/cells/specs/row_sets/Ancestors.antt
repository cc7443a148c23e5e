-- The rows above a row, by the column of parents. Row 0 is the root.
use Rattle.std.specs.Prelude.{Bool, ◌≡◌, T, eqb, length}
use Rattle.std.proofs.Math.Bool.{cond}
use mathlib.Core.List.{List, [], ◌∷◌, Memᴰ as In}
use Rattle.std.proofs.Common.{⊎_elim, sym, subst, ◌∙◌, eq-or-lt_of_le, arith, ne_eqb, eqb→eq}
use Rattle.std.proofs.Math.Path.{refl, ap}
use Prim.Native.Nat.{ℕ, zero, suc, ◌<◌, ◌≤◌}
use Rattle.std.proofs.Math.Dec.{eqb_refl}
use Rattle.std.proofs.Math.ListN.{get_or}
use Rattle.table_laws.specs.Parents.{ParentsBefore}
use Rattle.text_laws.specs.Lists.{any-in, in-any}
use Rattle.text_spec.specs.Lists.{any_of}

-- ---- definitions
-- the parent of a row, if it has one
unfoldable pub parent_of : List ℕ → ℕ → List ℕ
parent_of ps r = cond (eqb r 0) [] (get_or ps r 0 ∷ [])

-- the rows above r, nearest first: at most f of them, of which r are enough
unfoldable pub ancestors_within : List ℕ → ℕ → ℕ → List ℕ
ancestors_within ps zero r = []
ancestors_within ps (suc f) r = cond (eqb r 0) [] (get_or ps r 0 ∷ ancestors_within ps f (get_or ps r 0))

unfoldable pub ancestors_of : List ℕ → ℕ → List ℕ
ancestors_of ps r = ancestors_within ps r r

abbrev pub is_in : ℕ → List ℕ → Bool
is_in q l = any_of (eqb q) l

-- ---- laws
pub root-parent : (ps : List ℕ) → parent_of ps 0 ≡ []
unfolding parent_of
root-parent ps = refl

pub later-parent : (ps : List ℕ) (r : ℕ) → 0 < r → parent_of ps r ≡ get_or ps r 0 ∷ []
unfolding parent_of
later-parent ps zero l = absurd (omega arith)
later-parent ps (suc r) l = ap (λ (b : Bool). cond b [] (get_or ps (suc r) 0 ∷ [])) (ne_eqb (suc r) 0 (λ e. omega arith))

pub root-ancestors : (ps : List ℕ) → ancestors_of ps 0 ≡ []
unfolding ancestors_of ancestors_within
root-ancestors ps = refl

module _ (ps : List ℕ) (before : ParentsBefore ps) where
  enough : (f g r : ℕ) → r < length ps → r ≤ f → r ≤ g → ancestors_within ps f r ≡ ancestors_within ps g r
  unfolding ancestors_within
  enough zero zero r l a b = refl
  enough zero (suc g) zero l a b = refl
  enough zero (suc g) (suc r) l a b = absurd (omega arith)
  enough (suc f) zero zero l a b = refl
  enough (suc f) zero (suc r) l a b = absurd (omega arith)
  enough (suc f) (suc g) zero l a b = refl
  enough (suc f) (suc g) (suc r) l a b =
      let h : get_or ps (suc r) 0 < suc r = before (suc r) (omega arith) l in
      ap (λ (rs : List ℕ). cond (eqb (suc r) 0) [] (get_or ps (suc r) 0 ∷ rs)) (enough f g (get_or ps (suc r) 0) (omega arith) (omega arith) (omega arith))

  -- the rows above r are its parent and the rows above that
  pub later-ancestors : (r : ℕ) → 0 < r → r < length ps → ancestors_of ps r ≡ get_or ps r 0 ∷ ancestors_of ps (get_or ps r 0)
  unfolding ancestors_of ancestors_within
  later-ancestors zero p l = absurd (omega arith)
  later-ancestors (suc r) p l =
      let h : get_or ps (suc r) 0 < suc r = before (suc r) p l in
      ap (λ (b : Bool). cond b [] (get_or ps (suc r) 0 ∷ ancestors_within ps r (get_or ps (suc r) 0))) (ne_eqb (suc r) 0 (λ e. omega arith))
      ∙ ap (λ (rs : List ℕ). get_or ps (suc r) 0 ∷ rs) (enough r (get_or ps (suc r) 0) (get_or ps (suc r) 0) (omega arith) (omega arith) (omega arith))

  -- what holds of the root, and of a row where it holds of its parent, holds of every row
  pub by-parents : (P : ℕ → Type 0) → P 0 → ((r : ℕ) → 0 < r → r < length ps → P (get_or ps r 0) → P r) → (r : ℕ) → r < length ps → P r
  by-parents P z s r l = go r r l (omega arith)
    where
      go : (f q : ℕ) → q < length ps → q ≤ f → P q
      go zero q b c = subst P (omega arith) z
      go (suc f) q b c =
          ⊎_elim (λ e. subst P e z)
          (λ d.
          let h : get_or ps q 0 < q = before q d b in
          s q d b (go f (get_or ps q 0) (omega arith) (omega arith))) (eq-or-lt_of_le {n = 0} (omega arith))

-- being in a list, by test
pub is-in : (q : ℕ) {l : List ℕ} → In q l → T (is_in q l)
is-in q i = any-in (eqb q) i (eqb_refl q)

pub in_is : (q : ℕ) (l : List ℕ) → T (is_in q l) → In q l
in_is q l t =
    let r = in-any (eqb q) l t in
    subst (λ (z : ℕ). In z l) (sym (eqb→eq q r.0 r.2)) r.1
