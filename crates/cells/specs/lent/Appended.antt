-- Numbers appended to lent cells, as far as there is room, and the rest cleared.
use Rattle.std.specs.Prelude.{Bool, true, false, cond, List, [], ◌∷◌, ◌++◌, ◌⊎◌, ◌≡◌, refl, ℕ, ◌+◌, ◌-◌, ◌<◌, ◌≤◌, ltb, length, get_or, set}
use Rattle.std.proofs.Common.{⊎_elim, inl, inr, sym, ap, ◌∙◌, arith, lt-ltb, le-ltb, length-set, length-append, ext_get_or, get_or-set_same, get_or-set_other, get_or-append-add}
use Rattle.std.proofs.Math.ListN.{get_or-append, get_or-eq_default}
use Rattle.cells.specs.lent.Cells.{Cleared, padded-at}
use Rattle.text_laws.specs.Cells.{padded-length}
use Rattle.std.proofs.Math.Seq.{set_out}
use Rattle.std.proofs.lemmas.Bool.{cases_lt}
use Rattle.text_laws.specs.Searches.{below-or-past}
use Rattle.text_spec.specs.Cells.{padded}

-- a cell that is there is written
unfoldable pub written : {A : Type 0} → List A → ℕ → A → List A
written out n x = cond (ltb n (length out)) (set out n x) out

pub written_in : {A : Type 0} (out : List A) (n : ℕ) (x : A) → n < length out → set out n x ≡ written out n x
unfolding written
written_in out n x l = sym (ap (λ (b : Bool). cond b (set out n x) out) (lt-ltb n (length out) l))

pub written_out : {A : Type 0} (out : List A) (n : ℕ) (x : A) → length out ≤ n → out ≡ written out n x
unfolding written
written_out out n x l = sym (ap (λ (b : Bool). cond b (set out n x) out) (le-ltb n (length out) l))

-- a store past the end changes nothing
pub set-written : {A : Type 0} (out : List A) (n : ℕ) (x : A) → set out n x ≡ written out n x
set-written out n x = by (cases_lt n (length out))
  where
    by : (n < length out) ⊎ (length out ≤ n) → set out n x ≡ written out n x
    by (inl l) = written_in out n x l
    by (inr l) = set_out out n x l ∙ written_out out n x l

pub written-length : (out : List ℕ) (n x : ℕ) → length (written out n x) ≡ length out
unfolding written
written-length out n x = pick (ltb n (length out))
  where
    pick : (b : Bool) → length (cond b (set out n x) out) ≡ length out
    pick true = length-set out n x
    pick false = refl

pub written-other : (out : List ℕ) (n x k : ℕ) → k < n → get_or (written out n x) k 0 ≡ get_or out k 0
unfolding written
written-other out n x k l = pick (ltb n (length out))
  where
    pick : (b : Bool) → get_or (cond b (set out n x) out) k 0 ≡ get_or out k 0
    pick true = get_or-set_other out n k x 0 (λ e. omega arith)
    pick false = refl

pub written_same : (out : List ℕ) (n x : ℕ) → n < length out → get_or (written out n x) n 0 ≡ x
written_same out n x l = ap (λ (o : List ℕ). get_or o n 0) (sym (written_in out n x l)) ∙ get_or-set_same out n x 0 l

-- the numbers ys stand in the cells from `at` on, as far as there is room, and n is the cell past them; later cells may hold anything
pub record Appended (was : List ℕ) (at : ℕ) (ys : List ℕ) (n : ℕ) (out : List ℕ) : Type 0 where
  pub long : length out ≡ length was
  pub count : n ≡ at + length ys
  pub kept : (k : ℕ) → k < at → get_or out k 0 ≡ get_or was k 0
  pub cells : (k : ℕ) → k < length ys → at + k < length was → get_or out (at + k) 0 ≡ get_or ys k 0

-- one number
pub appended_one : (was : List ℕ) (n x : ℕ) → Appended was n (x ∷ []) (n + 1) (written was n x)
appended_one was n x =
    record {
      long = written-length was n x;
      count = omega arith;
      kept = λ k l. written-other was n x k l;
      cells = λ k l b.
          (let z : k ≡ 0 = omega arith in
          let y : n + k ≡ n = omega arith in
          ap (λ (i : ℕ). get_or (written was n x) i 0) y ∙ written_same was n x (omega arith) ∙ sym (ap (λ (i : ℕ). get_or (x ∷ []) i 0) z));
    }

-- numbers after numbers
pub appended-appended : (was mid out : List ℕ) (xs ys : List ℕ) (n p : ℕ) → Appended was 0 xs n mid → Appended mid n ys p out → Appended was 0 (xs ++ ys) p out
appended-appended was mid out xs ys n p u v =
    record {
      long = v.long ∙ u.long;
      count = omega (arith, u.count, v.count, length-append xs ys);
      kept = λ k l. absurd (omega arith);
      cells = λ k l b. ⊎_elim (first k b) (second k l b) (below-or-past k (length xs));
    }
  where
    first : (k : ℕ) → 0 + k < length was → k < length xs → get_or out (0 + k) 0 ≡ get_or (xs ++ ys) k 0
    first k b l =
        let z : 0 + k ≡ k = omega arith in
        ap (λ (i : ℕ). get_or out i 0) z ∙ v.kept k (omega (arith, u.count)) ∙ sym (ap (λ (i : ℕ). get_or mid i 0) z) ∙ u.cells k l b ∙ sym (get_or-append xs ys 0 k l)

    second : (k : ℕ) → k < length (xs ++ ys) → 0 + k < length was → length xs ≤ k → get_or out (0 + k) 0 ≡ get_or (xs ++ ys) k 0
    second k l b h =
        let z : 0 + k ≡ n + (k - length xs) = omega (arith, u.count) in
        let y : length xs + (k - length xs) ≡ k = omega arith in
        ap (λ (i : ℕ). get_or out i 0) z ∙ v.cells (k - length xs) (omega (arith, length-append xs ys)) (omega (arith, u.long))
        ∙ sym (get_or-append-add xs ys (k - length xs) 0) ∙ ap (λ (i : ℕ). get_or (xs ++ ys) i 0) y

-- numbers from the first cell on, and the rest cleared
pub appended-cleared : (was mid out xs : List ℕ) (n : ℕ) → Appended was 0 xs n mid → Cleared mid n out → out ≡ padded (length was) xs
appended-cleared was mid out xs n u v =
    ext_get_or 0 out (padded (length was) xs) (v.long ∙ u.long ∙ sym (padded-length (length was) xs)) (λ k b. cell k (omega (arith, v.long, u.long)) ∙ sym (padded-at (length was) xs k (omega (arith, v.long, u.long))))
  where
    cell : (k : ℕ) → k < length was → get_or out k 0 ≡ get_or xs k 0
    cell k b =
        let z : 0 + k ≡ k = omega arith in
        ⊎_elim (λ f. v.kept k f ∙ sym (ap (λ (i : ℕ). get_or mid i 0) z) ∙ u.cells k (omega (arith, u.count)) (omega arith))
        (λ f. v.clear k f (omega (arith, u.long)) ∙ sym (get_or-eq_default xs 0 (omega (arith, u.count)))) (below-or-past k n)
