-- Rows laid in columns, one after another.
use mathlib.Core.List.{List, map}
use mathlib.Core.Path.{◌≡◌, sym, ◌∙◌, subst}
use Prim.Native.Nat.{ℕ, ◌+◌, ◌<◌, ◌≤◌, min}
use native.Mathlib.Omega.{arith}
use borrow.Author.Count.{below_more}
use lib.ListN.{length, get_or, set, length-set, length-map, get_or-map}
use lib.Seq.{get_or-set_same, get_or-set_other}
use Rattle.row_structs.specs.Structs.{Laid, cell_count, cells_in, columns_in, empty_row}
use Rattle.row_structs.specs.declared.Row.{Row}
use Rattle.row_structs.specs.declared.RowColumns.{RowColumns}
use Rattle.table_spec.specs.Columns.{cells_at}
use Rattle.text_spec.specs.Limits.{max_nodes}

pub record Sized (c : RowColumns) : Type 0 where
  pub numbers : length c.numbers ≡ cell_count
  pub names : length c.names ≡ cell_count
  pub parents : length c.parents ≡ cell_count
  pub starts : length c.starts ≡ cell_count
  pub lengths : length c.lengths ≡ cell_count
  pub decoded : length c.decoded ≡ cell_count

-- a row in a cell of the columns
abbrev pub with_row : RowColumns → ℕ → Row → RowColumns
with_row c k r =
    record {
      numbers = set c.numbers k r.number;
      names = set c.names k r.name;
      parents = set c.parents k r.parent;
      starts = set c.starts k r.start;
      lengths = set c.lengths k r.size;
      decoded = set c.decoded k r.decoded;
    }

-- the rows before i that a table can have stand in the columns
abbrev pub LaidTo : List Row → ℕ → RowColumns → Type 0
LaidTo ys i c = (k : ℕ) → k < i → k < max_nodes → cells_at (columns_in c) k ≡ cells_in (get_or ys k empty_row)

pub with-row-sized : (c : RowColumns) (k : ℕ) (r : Row) → Sized c → Sized (with_row c k r)
with-row-sized c k r z =
    record {
      numbers = length-set c.numbers k r.number ∙ z.numbers;
      names = length-set c.names k r.name ∙ z.names;
      parents = length-set c.parents k r.parent ∙ z.parents;
      starts = length-set c.starts k r.start ∙ z.starts;
      lengths = length-set c.lengths k r.size ∙ z.lengths;
      decoded = length-set c.decoded k r.decoded ∙ z.decoded;
    }

cell_same : (c : RowColumns) (k : ℕ) (r : Row) → Sized c → k < cell_count → cells_at (columns_in (with_row c k r)) k ≡ cells_in r
cell_same c k r z l =
    λ i. record {
      number = get_or-set_same c.numbers k r.number 0 (subst (λ n. k < n) (sym z.numbers) l) i;
      name = get_or-set_same c.names k r.name 0 (subst (λ n. k < n) (sym z.names) l) i;
      parent = get_or-set_same c.parents k r.parent 0 (subst (λ n. k < n) (sym z.parents) l) i;
      start = get_or-set_same c.starts k r.start 0 (subst (λ n. k < n) (sym z.starts) l) i;
      size = get_or-set_same c.lengths k r.size 0 (subst (λ n. k < n) (sym z.lengths) l) i;
      decoded = get_or-set_same c.decoded k r.decoded 0 (subst (λ n. k < n) (sym z.decoded) l) i;
    }

cell_other : (c : RowColumns) (k j : ℕ) (r : Row) → (j ≡ k → ⊥) → cells_at (columns_in (with_row c k r)) j ≡ cells_at (columns_in c) j
cell_other c k j r ne =
    λ i. record {
      number = get_or-set_other c.numbers k j r.number 0 ne i;
      name = get_or-set_other c.names k j r.name 0 ne i;
      parent = get_or-set_other c.parents k j r.parent 0 ne i;
      start = get_or-set_other c.starts k j r.start 0 ne i;
      size = get_or-set_other c.lengths k j r.size 0 ne i;
      decoded = get_or-set_other c.decoded k j r.decoded 0 ne i;
    }

pub laid_more : (ys : List Row) (i : ℕ) (c : RowColumns) → Sized c → LaidTo ys i c → i < max_nodes → LaidTo ys (i + 1) (with_row c i (get_or ys i empty_row))
laid_more ys i c z laid l =
    below_more Stands i (λ k h m. cell_other c i k (get_or ys i empty_row) (λ e. omega arith) ∙ laid k h m) (λ m. cell_same c i (get_or ys i empty_row) z (omega arith))
  where
    Stands : ℕ → Type 0
    Stands k = k < max_nodes → cells_at (columns_in (with_row c i (get_or ys i empty_row))) k ≡ cells_in (get_or ys k empty_row)

pub laid-all : (ys : List Row) (c : RowColumns) (n : ℕ) → min (length ys) max_nodes ≤ n → LaidTo ys n c → Laid (map cells_in ys) (columns_in c)
laid-all ys c n far laid k l m = laid k (let h = subst (λ n. k < n) (length-map ys cells_in) l in omega arith) m ∙ sym (get_or-map cells_in ys k empty_row)
