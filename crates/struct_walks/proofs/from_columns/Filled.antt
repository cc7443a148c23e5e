-- Structs filled from columns: after each turn, and once all are.
use mathlib.Core.Bool.{Bool, true, false}
use mathlib.Core.List.{List, [], ◌∷◌, map}
use mathlib.Core.Path.{◌≡◌, refl, sym, ◌∙◌, ap, subst}
use mathlib.Core.WellFounded.InvImage
use mathlib.Core.WellFounded.{WellFounded}
use Prim.Native.Nat.{ℕ, zero, suc, ◌+◌, ◌-◌, ◌<◌, ◌≤◌}
use native.Mathlib.Nat.{add-zero}
use native.Mathlib.Omega.{arith}
use borrow.Author.Count.{below_more}
use borrow.Author.Tests.{ltb-true, ltb-false}
use lib.Dec.{ltb}
use lib.ListN.{length, get_or, set, length-set, get_or-eq_default}
use lib.Seq.{get_or-set_same, get_or-set_other}
use lib.WfN.{lt-wf_rel}
use Rattle.row_structs.specs.Structs.{cells_in, columns_in, empty_row, empty_cells, cell_count, cell_of}
use Rattle.row_structs.specs.declared.Row.{Row}
use Rattle.row_structs.specs.declared.RowColumns.{RowColumns}
use Rattle.table_spec.specs.Columns.{cells_at, cells_from}
use Rattle.text_spec.specs.Limits.{max_nodes}

-- each column has all its cells
abbrev pub Long : RowColumns → Type 0
Long c =
    (length c.numbers ≡ cell_count)
    × ((length c.names ≡ cell_count) × ((length c.parents ≡ cell_count) × ((length c.starts ≡ cell_count) × ((length c.lengths ≡ cell_count) × (length c.decoded ≡ cell_count)))))

module _ (c : RowColumns) where
  abbrev pub row_at : ℕ → Row
  row_at k = record { number = get_or c.numbers k 0; name = get_or c.names k 0; parent = get_or c.parents k 0; start = get_or c.starts k 0; size = get_or c.lengths k 0; decoded = get_or c.decoded k 0 }

  -- so many structs, the first i of which are filled
  abbrev pub Filled : ℕ → ℕ → List Row → Type 0
  Filled n i zs = (length zs ≡ n) × ((k : ℕ) → k < i → get_or zs k empty_row ≡ row_at (cell_of k))

  pub filled_more : (n i : ℕ) (zs : List Row) → i < n → Filled n i zs → Filled n (i + 1) (set zs i (row_at (cell_of i)))
  filled_more n i zs l f =
      (length-set zs i _ ∙ f.0, below_more _ _ (λ k h. get_or-set_other zs i k _ empty_row (λ e. omega arith) ∙ f.1 k h) (get_or-set_same zs i _ empty_row (omega arith)))

  module _ (long : Long c) (past : cells_at (columns_in c) max_nodes ≡ empty_cells) where
    none-past : (k : ℕ) → cell_count ≤ k → cells_at (columns_in c) k ≡ empty_cells
    none-past k l = λ i. record {
      number = get_or-eq_default c.numbers 0 {n = k} (omega arith) i;
      name = get_or-eq_default c.names 0 {n = k} (omega arith) i;
      parent = get_or-eq_default c.parents 0 {n = k} (omega arith) i;
      start = get_or-eq_default c.starts 0 {n = k} (omega arith) i;
      size = get_or-eq_default c.lengths 0 {n = k} (omega arith) i;
      decoded = get_or-eq_default c.decoded 0 {n = k} (omega arith) i;
    }

    -- the last cell stands for all past it
    found : (k : ℕ) → cells_at (columns_in c) (cell_of k) ≡ cells_at (columns_in c) k
    found k = by (ltb max_nodes k) refl
      where
        by : (b : Bool) → ltb max_nodes k ≡ b → cells_at (columns_in c) (cell_of k) ≡ cells_at (columns_in c) k
        by true e =
            let l = ltb-true max_nodes k e in
            let last : cell_of k ≡ max_nodes = omega arith in
            ap (cells_at (columns_in c)) last ∙ past ∙ sym (none-past k (omega arith))
        by false e =
            let l = ltb-false max_nodes k e in
            let here : cell_of k ≡ k = omega arith in
            ap (cells_at (columns_in c)) here

    all_from : (i : ℕ) (zs : List Row) → ((k : ℕ) → k < length zs → cells_in (get_or zs k empty_row) ≡ cells_at (columns_in c) (i + k)) → map cells_in zs ≡ cells_from (columns_in c) i (length zs)
    all_from i [] h = refl
    all_from i (z ∷ zs) h = λ j. (h zero (omega arith) ∙ ap (cells_at (columns_in c)) (add-zero i)) j ∷ all_from (suc i) zs (λ k l. h (suc k) (omega arith) ∙ ap (cells_at (columns_in c)) (omega arith)) j

    pub filled-all : (n : ℕ) (zs : List Row) → Filled n n zs → map cells_in zs ≡ cells_from (columns_in c) 0 n
    filled-all n zs f = subst (λ (m : ℕ). map cells_in zs ≡ cells_from (columns_in c) 0 m) f.0 (all_from 0 zs (λ k l. ap cells_in (f.1 k (omega arith)) ∙ found k ∙ ap (cells_at (columns_in c)) (omega arith)))

-- ---- where the loop stands, and that it nears its end
pub record Turn (c : RowColumns) (n : ℕ) : Type 0 where
  pub i : ℕ
  pub zs : List Row
  pub within : i ≤ n
  pub filled : Filled c n i zs

module _ (c : RowColumns) where
  abbrev pub first-turn : (zs : List Row) → Turn c (length zs)
  first-turn zs = record { i = 0; zs = zs; within = omega arith; filled = (refl, λ k l. absurd (omega arith)) }

  module _ (n : ℕ) where
    abbrev pub next : (x : Turn c n) → x.i < n → Turn c n
    next x l = record { i = x.i + 1; zs = set x.zs x.i (row_at c (cell_of x.i)); within = omega (arith, l); filled = filled_more c n x.i x.zs l x.filled }

    abbrev pub Nearer : Turn c n → Turn c n → Type 0
    Nearer y x = n - y.i < n - x.i

    pub nearer : (x : Turn c n) (l : x.i < n) → Nearer (next x l) x
    nearer x l = omega (arith, l)

    pub nearer-wf : WellFounded Nearer
    nearer-wf = InvImage.wf (λ (x : Turn c n). n - x.i) lt-wf_rel.wf
