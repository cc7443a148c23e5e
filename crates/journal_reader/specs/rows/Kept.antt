-- Columns that are lent stay the same, and of the same lengths.
use Rattle.std.specs.Prelude.{Bool, true, false, cond, List, ◌≡◌, refl, ℕ, ltb, length, set}
use Rattle.std.proofs.Common.{ap, ◌∙◌, length-set}
use Rattle.cells.specs.columns.Columns.{put, with_row}
use Rattle.cells.specs.columns.Lent.{lent_columns, Same, Left}
use Rattle.cells.specs.declared.columns.ColumnsMut.{ColumnsMut}
use Rattle.table_spec.specs.Columns.{Columns, sizes_of}
use Rattle.table_spec.specs.Rows.{Cells}

pub record Kept (old new : ColumnsMut) : Type 0 where
  pub same : Same old new
  pub sizes : sizes_of (lent_columns new) ≡ sizes_of (lent_columns old)

pub same-all : (t : ColumnsMut) → Kept t t
same-all t = record { same = record { numbers = refl; names = refl; parents = refl; starts = refl; lengths = refl; decoded = refl }; sizes = refl }

pub same-then : {a b c : ColumnsMut} → Kept a b → Kept b c → Kept a c
same-then x y =
    record {
      same =
          record {
            numbers = y.same.numbers ∙ x.same.numbers;
            names = y.same.names ∙ x.same.names;
            parents = y.same.parents ∙ x.same.parents;
            starts = y.same.starts ∙ x.same.starts;
            lengths = y.same.lengths ∙ x.same.lengths;
            decoded = y.same.decoded ∙ x.same.decoded;
          };
      sizes = y.sizes ∙ x.sizes;
    }

put-length : (column : List ℕ) (r x : ℕ) → length (put column r x) ≡ length column
put-length column r x = pick (ltb r (length column))
  where
    pick : (b : Bool) → length (cond b (set column r x) column) ≡ length column
    pick true = length-set column r x
    pick false = refl

row-sizes : (c : Columns) (r : ℕ) (x : Cells) → sizes_of (with_row c r x) ≡ sizes_of c
row-sizes c r x =
    rw (
      put-length c.numbers r x.number,
      put-length c.names r x.name,
      put-length c.parents r x.parent,
      put-length c.starts r x.start,
      put-length c.lengths r x.size,
      put-length c.decoded r x.decoded,
    )
    refl

-- one row put
pub row-kept : {a b : ColumnsMut} (r : ℕ) (x : Cells) → Left a b (with_row (lent_columns a) r x) → Kept a b
row-kept {a} r x w = record { same = w.same; sizes = ap sizes_of w.cells ∙ row-sizes (lent_columns a) r x }
