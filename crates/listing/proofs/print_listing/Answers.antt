use Rattle.std.proofs.Common.{sym, ap, ◌∙◌, subst}
use Rattle.std.specs.Prelude.{length}
use native.Mathlib.Omega.{arith}
use Rattle.cells.specs.columns.Columns.{EqualColumns}
use Rattle.cells.specs.lent.Columns.{first_cells}
use Rattle.listing.specs.Prints.{rows-printed}
use Rattle.table_spec.specs.Columns.{Columns}
use Rattle.listing.proofs.print_listing.Goals as goal

pub first-table-requires-clause-equal : goal.first-table-requires-clause-equal
first-table-requires-clause-equal c = subst EqualColumns (sym c.as_columns.ensures) c.in-Ok.ensures.listed.says.equal

pub first-table-requires-clause-room : goal.first-table-requires-clause-room
first-table-requires-clause-room c = omega (arith, ap (λ (x : Columns). length x.numbers) c.as_columns.ensures, c.in-Ok.ensures.listed.says.room)

pub print_rows-requires : goal.print_rows-requires
print_rows-requires c =
    rows-printed _ _ _ _ _ _ c.in-Ok.ensures.listed.says _ (c.first-table.ensures ∙ ap (first_cells _) c.as_columns.ensures) (omega (arith, c.in-Ok.ensures.listed.says.fits.few))
