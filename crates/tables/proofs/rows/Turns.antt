-- What holds at each turn of the two loops: the rows before one fit, and the climb to its parent goes on from where it stands.
use mathlib.Core.Bool.{Bool, true, false, cond, ◌&&◌}
use mathlib.Core.List.{List}
use mathlib.Core.Logic.{⊎_elim}
use mathlib.Core.Path.{◌≡◌, refl, sym, ap, ◌∙◌}
use Prim.Native.Nat.{ℕ, zero, suc, ◌+◌, ◌-◌, ◌<◌, ◌≤◌}
use native.Mathlib.Nat.{eq-or-lt_of_le}
use native.Mathlib.Numerals.{add-one}
use native.Mathlib.Omega.{arith}
use borrow.Author.Tests.{eq-eqb, ne_eqb, leb-false}
use lib.Dec.{eqb, eqb→eq}
use Rattle.table_laws.specs.passes.Climbs.{Climbed, stopped, nowhere, climb}
use Rattle.table_laws.specs.passes.Codes.{fits-depth}
use Rattle.table_laws.specs.passes.Passes.{is_text_code, depth_under, root_fits, root_cells, open_after, code_at, parent_at, fits_under, later_pass, rows_pass}
use Rattle.table_spec.specs.Columns.{Columns, cells_at}
use Rattle.tables.specs.rows.Lent.{Lent, RowLent, RootAt, row_fits}
use Rattle.text_laws.specs.Tests.{passed, and_cases}
use Rattle.text_spec.specs.Limits.{max_declarations, max_depth}

-- ---- the outer loop, which is about to look at a row
pub record Rows (words : List ℕ) (c : Columns) (count element depth row : ℕ) : Type 0 where
  pub later : 0 < row
  pub most : row ≤ count
  pub low : element < row
  pub is_element : code_at c element < max_declarations
  pub deep : 0 < depth
  pub shallow : depth ≤ max_depth
  pub early : (j : ℕ) → j < row → (parent_at c j ≤ j) × (code_at c (parent_at c j) < max_declarations)
  pub rest : later_pass words c (count - row) (row - 1) element depth ≡ later_pass words c (count - 1) 0 0 1

-- ---- the climb to the parent of a row, from where it began
pub record Climbing (c : Columns) (row parent from among element depth : ℕ) : Type 0 where
  pub low : element < row
  pub is_element : code_at c element < max_declarations
  pub deep : 0 < depth
  pub shallow : depth ≤ max_depth
  pub rest : climb (eqb parent) c.parents element depth ≡ climb (eqb parent) c.parents from among

-- so have the first of the rows
pub lent-to : (c : Columns) (count n : ℕ) → Lent c count → n ≤ count → Lent c n
lent-to c count n lent l =
    record {
      numbered = omega (arith, lent.numbered);
      named = omega (arith, lent.named);
      parented = omega (arith, lent.parented);
      started = omega (arith, lent.started);
      sized = omega (arith, lent.sized);
      measured = omega (arith, lent.measured);
    }

-- the row that the climb is for stands in the columns, and so does the element that the climb has come to
pub row-lent : (c : Columns) (count row parent from among element depth : ℕ) → Lent c count → 0 < row → row < count → Climbing c row parent from among element depth
    → RowLent c row element
row-lent c count row parent from among element depth lent later more k =
    record {
      later = later;
      lent = lent-to c count (row + 1) lent (omega arith);
      parented = omega (arith, lent.named, k.low);
      is_element = k.is_element;
    }

root-parts : (number code parent start size decoded : ℕ) → root_fits number code parent start size decoded ≡ true → (code ≡ 0) × (parent ≡ 0)
unfolding root_fits
root-parts number code parent start size decoded e =
    let c₀ = and_cases (eqb number 0) _ (passed e) in
    let c₁ = and_cases (eqb code 0) _ c₀.1 in
    (eqb→eq _ _ c₁.0, eqb→eq _ _ (and_cases (eqb parent 0) _ c₁.1).0)

pub root-at : (c : Columns) (count : ℕ) → (count ≡ 0 → ⊥) → root_cells (cells_at c 0) ≡ true → RootAt c count
root-at c count n e =
    let p = root-parts _ (code_at c 0) (parent_at c 0) _ _ _ e in
    record { some = omega arith; name = p.0; parent = p.1 }

module _ (words : List ℕ) (c : Columns) where
  abbrev whole : ℕ → Bool
  whole count = later_pass words c (count - 1) 0 0 1

  pub rows-first : (count : ℕ) → RootAt c count → Rows words c count 0 1 1
  rows-first count r =
      let n = r.name in
      let p = r.parent in
      record {
        later = omega arith;
        most = r.some;
        low = omega arith;
        is_element = omega arith;
        deep = omega arith;
        shallow = omega arith;
        early = early;
        rest = refl;
      }
    where
      early : (j : ℕ) → j < 1 → (parent_at c j ≤ j) × (code_at c (parent_at c j) < max_declarations)
      early j l =
          let z : j ≡ 0 = omega arith in
          let n = r.name in
          let p = r.parent in
          rw (z, r.parent) (omega arith, omega arith)

  pub climb-first : (count element depth row parent : ℕ) → Rows words c count element depth row → Climbing c row parent element depth element depth
  climb-first count element depth row parent r = record { low = r.low; is_element = r.is_element; deep = r.deep; shallow = r.shallow; rest = refl }

  module _ (count from among row parent element depth : ℕ) (r : Rows words c count from among row) (k : Climbing c row parent from among element depth) where
    apart : (n : ℕ) → (element ≡ parent → ⊥) → climb (eqb parent) c.parents element (suc n) ≡ climb (eqb parent) c.parents (parent_at c element) n
    apart n h = ap (λ (b : Bool). cond b (stopped element (suc n)) (climb (eqb parent) c.parents (parent_at c element) n)) (ne_eqb parent element (λ e. h (sym e)))

    pub climb-next : (element ≡ parent → ⊥) → (depth ≡ 1 → ⊥) → Climbing c row parent from among (parent_at c element) (depth - 1)
    climb-next h n =
        let e = r.early element k.low in
        let l = k.low in
        let d = k.deep in
        let s = k.shallow in
        let up : depth ≡ suc (depth - 1) = omega arith in
        record {
          low = omega (arith, e.0);
          is_element = e.1;
          deep = omega arith;
          shallow = omega arith;
          rest = sym (apart (depth - 1) h) ∙ sym (ap (climb (eqb parent) c.parents element) up) ∙ k.rest;
        }

    -- past the root
    climb-past : (element ≡ parent → ⊥) → depth ≡ 1 → climb (eqb parent) c.parents from among ≡ nowhere
    climb-past h e = sym k.rest ∙ ap (climb (eqb parent) c.parents element) e ∙ apart 0 h

    -- at the parent
    climb-here : element ≡ parent → climb (eqb parent) c.parents from among ≡ stopped element depth
    climb-here e =
        let d = k.deep in
        let up : depth ≡ suc (depth - 1) = omega arith in
        sym k.rest ∙ ap (climb (eqb parent) c.parents element) up
        ∙ ap (λ (b : Bool). cond b (stopped element (suc (depth - 1))) (climb (eqb parent) c.parents (parent_at c element) (depth - 1))) (eq-eqb parent element (sym e))
        ∙ ap (stopped element) (sym up)

  -- ---- one turn of the outer loop
  abbrev after_row : ℕ → ℕ → ℕ → ℕ → Bool
  after_row count row p d = later_pass words c (count - (row + 1)) (row + 1 - 1) (open_after (code_at c row) row p) (depth_under (code_at c row) d)

  abbrev fits_at : ℕ → ℕ → ℕ → Bool
  fits_at row p d = row_fits c words row p d

  abbrev turned : ℕ → ℕ → Climbed → Bool
  turned count row nowhere = false
  turned count row (stopped p d) = fits_at row p d && after_row count row p d

  turn : (count row element depth : ℕ) → 0 < row → row < count
      → later_pass words c (count - row) (row - 1) element depth ≡ turned count row (climb (eqb (parent_at c row)) c.parents element depth)
  turn count zero element depth l m = absurd (omega arith)
  turn count (suc i) element depth l m =
      let n : count - suc i ≡ suc (count - (suc i + 1)) = omega arith in
      let p : suc i - 1 ≡ i = omega arith in
      let q : suc i + 1 - 1 ≡ suc i = omega arith in
      rw (n, p) (by-climb (climb (eqb (parent_at c (suc i))) c.parents element depth))
    where
      by-climb : (o : Climbed) → fits_under words c i (λ p d. later_pass words c (count - (suc i + 1)) (suc i) p d) o ≡ turned count (suc i) o
      by-climb nowhere = refl
      by-climb (stopped p d) =
          let a : suc i - 1 ≡ i = omega arith in
          let b : suc i + 1 - 1 ≡ suc i = omega arith in
          rw (a, b)

  module _ (count from among row parent element depth : ℕ) (is_parent : parent_at c row ≡ parent) (more : row < count) (r : Rows words c count from among row)
      (k : Climbing c row parent from among element depth) where
    at_turn : (o : Climbed) → climb (eqb parent) c.parents from among ≡ o → turned count row o ≡ whole count
    at_turn o e =
        ap (turned count row) (sym (ap (λ (x : ℕ). climb (eqb x) c.parents from among) is_parent ∙ e)) ∙ sym (turn count row from among r.later more) ∙ r.rest

    stopped-early : whole count ≡ false → eqb row count ≡ whole count
    stopped-early e = ne_eqb row count (λ q. omega arith) ∙ sym e

    -- the row's parent is none of the open elements
    pub rows-past : (element ≡ parent → ⊥) → depth ≡ 1 → eqb row count ≡ whole count
    rows-past h e = stopped-early (sym (at_turn nowhere (climb-past count from among row parent element depth r k h e)))

    module _ (here : element ≡ parent) where
      found : (fits_at row element depth && after_row count row element depth) ≡ whole count
      found = at_turn (stopped element depth) (climb-here count from among row parent element depth r k here)

      pub rows-fail : fits_at row element depth ≡ false → eqb row count ≡ whole count
      rows-fail f = stopped-early (sym (sym (ap (λ (b : Bool). b && after_row count row element depth) f) ∙ found))

      module _ (fits : fits_at row element depth ≡ true) where
        next : after_row count row element depth ≡ whole count
        next = sym (ap (λ (b : Bool). b && after_row count row element depth) fits) ∙ found

        early : (j : ℕ) → j < row + 1 → (parent_at c j ≤ j) × (code_at c (parent_at c j) < max_declarations)
        early j l = ⊎_elim this (λ m. r.early j m) (eq-or-lt_of_le at_most)
          where
            at_most : j ≤ row
            at_most = omega arith

            this : j ≡ row → (parent_at c j ≤ j) × (code_at c (parent_at c j) < max_declarations)
            this e =
                let a = k.low in
                rw (e, is_parent, ← here) (omega arith, k.is_element)

        pub rows-text : is_text_code (code_at c row) ≡ true → Rows words c count element depth (row + 1)
        rows-text t =
            let l = r.later in
            let m = k.low in
            record {
              later = omega arith;
              most = omega arith;
              low = omega arith;
              is_element = k.is_element;
              deep = k.deep;
              shallow = k.shallow;
              early = early;
              rest = rw t at next;
            }

        pub depth-fits : is_text_code (code_at c row) ≡ false → depth + 1 ≤ max_depth
        depth-fits t =
            let m = fits-depth _ _ _ depth _ (code_at c row) _ _ _ (passed fits) in
            let d : depth_under (code_at c row) depth ≡ suc depth = ap (λ (b : Bool). cond b depth (suc depth)) t in
            omega arith

        pub rows-element : is_text_code (code_at c row) ≡ false → Rows words c count row (depth + 1) (row + 1)
        rows-element t =
            let l = r.later in
            let m = depth-fits t in
            let code = leb-false max_declarations (code_at c row) t in
            record {
              later = omega arith;
              most = omega arith;
              low = omega arith;
              is_element = code;
              deep = omega arith;
              shallow = m;
              early = early;
              rest = rw (add-one depth) (rw t at next);
            }

  -- ---- after the loop
  pub rows-done : (count element depth row : ℕ) → Rows words c count element depth row → count ≤ row → eqb row count ≡ whole count
  rows-done count element depth row r l =
      let m = r.most in
      let end : count - row ≡ 0 = omega arith in
      eq-eqb row count (omega arith) ∙ sym (ap (λ (n : ℕ). later_pass words c n (row - 1) element depth) end) ∙ r.rest

  -- ---- the whole table
  whole-rows : (count : ℕ) → (count ≡ 0 → ⊥) → (root_cells (cells_at c 0) && whole count) ≡ rows_pass words c count
  unfolding rows_pass
  whole-rows zero n = absurd (n refl)
  whole-rows (suc k) n = let e : suc k - 1 ≡ k = omega arith in rw e

  pub rows_none : (count : ℕ) → count ≡ 0 → true ≡ rows_pass words c count
  unfolding rows_pass
  rows_none count e = rw e

  pub rows-rootless : (count : ℕ) → (count ≡ 0 → ⊥) → root_cells (cells_at c 0) ≡ false → false ≡ rows_pass words c count
  rows-rootless count n e = sym (ap (λ (b : Bool). b && whole count) e) ∙ whole-rows count n

  pub rows-rooted : (count : ℕ) → (count ≡ 0 → ⊥) → root_cells (cells_at c 0) ≡ true → whole count ≡ rows_pass words c count
  rows-rooted count n e = sym (ap (λ (b : Bool). b && whole count) e) ∙ whole-rows count n
