-- Rows that a text gives, in lent columns: by the verdict that is told of them, and as the first cells of each column.
use Rattle.std.specs.Prelude.{Bool, ◌≡◌, ℕ, ◌≤◌, Result, Ok, Err, length, take}
use Rattle.std.proofs.Math.Bool.{true, false}
use mathlib.Core.List.{List, [], map}
use Rattle.std.proofs.Math.Path.{refl, ap}
use Rattle.std.proofs.Common.{sym, ◌∙◌, arith}
use borrow.Author.Tests.{le-ltb, ltb-false}
use Rattle.std.proofs.Math.Dec.{ltb}
use Rattle.std.proofs.lemmas.List.{length-map}
use Rattle.cells.specs.columns.Columns.{EqualColumns}
use Rattle.cells.specs.lent.Columns.{first_cells, same-columns}
use Rattle.cells.specs.verdicts.Verdicts.{verdict}
use Rattle.kept_rows.specs.laws.Cut.{columns_in}
use Rattle.library_spec.specs.Calls.{in_columns, rows_after, columns_after}
use Rattle.library_spec.specs.Hosts.{HostAnswer}
use Rattle.schema_spec.specs.Names.{code_of}
use Rattle.table_spec.specs.Columns.{Columns, Sizes, sizes_of, columns_of}
use Rattle.table_spec.specs.Rows.{Row}
use Rattle.text_laws.specs.Cells.{padded-length, padded-take}
use Rattle.text_spec.specs.Calls.{in_room}
use Rattle.text_spec.specs.Cells.{padded}
use Rattle.text.specs.declared.refusals.Refusal as program
use Rattle.text.specs.refusals.Refusals.{refusal_in, refusal_in-as}
use Rattle.text_laws.specs.Tests.{never}
use Rattle.text_spec.specs.Refusals.{Outcome, accepted, refused, and_then}

-- ---- definitions
-- each column has so many cells
pub record Rooms (c : Columns) (n : ℕ) : Type 0 where
  pub numbers : n ≤ length c.numbers
  pub names : n ≤ length c.names
  pub parents : n ≤ length c.parents
  pub starts : n ≤ length c.starts
  pub lengths : n ≤ length c.lengths
  pub decoded : n ≤ length c.decoded

-- the rows of an accepted text, in columns that have room for them
pub record RowsRead (o : Outcome (List Row)) (z : Sizes) (n : ℕ) (d : Columns) : Type 0 where
  pub rows : List Row
  pub read : o ≡ accepted rows
  pub size : n ≡ length rows
  pub room : length rows ≤ z.numbers
  pub columns-are : d ≡ columns_of z rows

-- ---- what an answer has
abbrev pub ok_or : {A : Type 0} → A → Result A program.Refusal → A
ok_or d (Ok a) = a
ok_or d (Err f) = d

abbrev pub err_or : {A : Type 0} → program.Refusal → Result A program.Refusal → program.Refusal
err_or d (Ok a) = d
err_or d (Err f) = f

-- ---- a text's outcome by its verdict
module _ (o : Outcome (List Row)) (z : Sizes) (v : Result ℕ program.Refusal) (d : Columns) (answer : v ≡ verdict (and_then o (in_columns z)))
    (cells : d ≡ columns_after z (λ rows. rows) (and_then o (in_columns z))) where
  pub rows-read : (n : ℕ) → v ≡ Ok n → RowsRead o z n d
  unfolding columns_after
  rows-read n e = pick o refl (sym e ∙ answer) cells
    where
      in-room : (rows : List Row) (b : Bool) → o ≡ accepted rows → ltb z.numbers (length rows) ≡ b → Ok n ≡ verdict (in_room b rows)
          → d ≡ columns_after z (λ rs. rs) (in_room b rows) → RowsRead o z n d
      in-room rows true q t a h = never (cc)
      in-room rows false q t a h =
          record { rows = rows; read = q; size = ap (ok_or 0) a; room = ltb-false z.numbers (length rows) t; columns-are = h }

      pick : (x : Outcome (List Row)) → o ≡ x → Ok n ≡ verdict (and_then x (in_columns z)) → d ≡ columns_after z (λ rows. rows) (and_then x (in_columns z))
          → RowsRead o z n d
      pick (accepted rows) q a h = in-room rows (ltb z.numbers (length rows)) q refl a h
      pick (refused f) q a h = never (cc)

  pub text-refused : (f : program.Refusal) → v ≡ Err f → (and_then o (in_columns z) ≡ refused (refusal_in f)) × (d ≡ columns_of z [])
  unfolding columns_after
  text-refused f e = pick (and_then o (in_columns z)) (sym e ∙ answer) cells
    where
      pick : (x : Outcome (List Row)) → Err f ≡ verdict x → d ≡ columns_after z (λ rows. rows) x → (x ≡ refused (refusal_in f)) × (d ≡ columns_of z [])
      pick (accepted rows) a h = never (cc)
      pick (refused g) a h = (ap refused (sym (ap refusal_in (ap (err_or f) a) ∙ refusal_in-as g)), h)

-- what follows goes by the rows
pub staged-by : (o : Outcome (List Row)) (z : Sizes) (n : ℕ) (d : Columns) (w : RowsRead o z n d) (k : List Row → Outcome HostAnswer) → and_then (and_then o (in_columns z)) k ≡ k w.rows
staged-by o z n d w k =
    ap (λ (x : Outcome (List Row)). and_then (and_then x (in_columns z)) k) w.read
    ∙ ap (λ (y : Bool). and_then (in_room y w.rows) k) (le-ltb z.numbers (length w.rows) w.room)

-- ---- the rows in the columns
pub sizes-after : (z : Sizes) (rows : List Row) → sizes_of (columns_of z rows) ≡ z
sizes-after z rows =
    rw (
      padded-length z.numbers (map (λ r. r.number) rows),
      padded-length z.names (map (λ r. code_of r.name) rows),
      padded-length z.parents (map (λ r. r.parent) rows),
      padded-length z.starts (map (λ r. r.start) rows),
      padded-length z.lengths (map (λ r. r.size) rows),
      padded-length z.decoded (map (λ r. r.decoded) rows),
    )

-- and so they are after a call that is refused
pub sizes-left : (o : Outcome (List Row)) (z : Sizes) (d : Columns) → d ≡ columns_after z (λ rows. rows) o → sizes_of d ≡ z
unfolding columns_after
sizes-left o z d e = ap sizes_of e ∙ sizes-after z (rows_after (λ rows. rows) o)

-- the first cells of a column of rows
first-cells : (f : Row → ℕ) (rows : List Row) (k n : ℕ) → n ≡ length rows → length rows ≤ k → take n (padded k (map f rows)) ≡ map f rows
first-cells f rows k n e l = ap (λ (x : ℕ). take x (padded k (map f rows))) (e ∙ sym (length-map rows f)) ∙ padded-take k (map f rows) (omega (arith, length-map rows f))

module _ (o : Outcome (List Row)) (c : Columns) (equal : EqualColumns c) (n : ℕ) (d : Columns) (w : RowsRead o (sizes_of c) n d) where
  abbrev rows : List Row
  rows = w.rows

  pub first-columns : first_cells n d ≡ columns_in rows
  first-columns =
      ap (λ (x : Columns). first_cells n x) w.columns-are
      ∙ same-columns (first-cells (λ r. r.number) rows (length c.numbers) n w.size w.room)
      (first-cells (λ r. code_of r.name) rows (length c.names) n w.size (omega (arith, w.room, equal.of-names)))
      (first-cells (λ r. r.parent) rows (length c.parents) n w.size (omega (arith, w.room, equal.of-parents)))
      (first-cells (λ r. r.start) rows (length c.starts) n w.size (omega (arith, w.room, equal.of-starts)))
      (first-cells (λ r. r.size) rows (length c.lengths) n w.size (omega (arith, w.room, equal.of-lengths)))
      (first-cells (λ r. r.decoded) rows (length c.decoded) n w.size (omega (arith, w.room, equal.of-decoded)))

  pub rooms : Rooms d n
  rooms =
      let z : sizes_of d ≡ sizes_of c = ap sizes_of w.columns-are ∙ sizes-after (sizes_of c) rows in
      let l = w.room in
      let e = w.size in
      record {
        numbers = omega (arith, ap (λ (x : Sizes). x.numbers) z);
        names = omega (arith, ap (λ (x : Sizes). x.names) z, equal.of-names);
        parents = omega (arith, ap (λ (x : Sizes). x.parents) z, equal.of-parents);
        starts = omega (arith, ap (λ (x : Sizes). x.starts) z, equal.of-starts);
        lengths = omega (arith, ap (λ (x : Sizes). x.lengths) z, equal.of-lengths);
        decoded = omega (arith, ap (λ (x : Sizes). x.decoded) z, equal.of-decoded);
      }

  -- the columns are of one length, and have room for the rows
  same-sizes : sizes_of d ≡ sizes_of c
  same-sizes = ap sizes_of w.columns-are ∙ sizes-after (sizes_of c) rows

  pub equal-after : EqualColumns d
  equal-after =
      let z = same-sizes in
      record {
        of-names = omega (arith, ap (λ (x : Sizes). x.names) z, ap (λ (x : Sizes). x.numbers) z, equal.of-names);
        of-parents = omega (arith, ap (λ (x : Sizes). x.parents) z, ap (λ (x : Sizes). x.numbers) z, equal.of-parents);
        of-starts = omega (arith, ap (λ (x : Sizes). x.starts) z, ap (λ (x : Sizes). x.numbers) z, equal.of-starts);
        of-lengths = omega (arith, ap (λ (x : Sizes). x.lengths) z, ap (λ (x : Sizes). x.numbers) z, equal.of-lengths);
        of-decoded = omega (arith, ap (λ (x : Sizes). x.decoded) z, ap (λ (x : Sizes). x.numbers) z, equal.of-decoded);
      }

pub room-after : (o : Outcome (List Row)) (c : Columns) (n : ℕ) (d : Columns) → RowsRead o (sizes_of c) n d → n ≤ length d.numbers
room-after o c n d w =
    let z = ap sizes_of w.columns-are ∙ sizes-after (sizes_of c) w.rows in
    omega (arith, w.size, w.room, ap (λ (x : Sizes). x.numbers) z)
