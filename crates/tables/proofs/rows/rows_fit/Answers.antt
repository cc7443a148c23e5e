-- `rows_fit` meets its contract: no row, no root, or the pass over the later rows.
use mathlib.Core.Path.{sym, ap, ◌∙◌}
use Rattle.cells.specs.columns.Lent.{read_columns}
use Rattle.table_laws.specs.passes.Passes.{root_cells}
use Rattle.table_spec.specs.Columns.{Columns}
use Rattle.tables.proofs.rows.Turns.{root-at, rows_none, rows-rootless, rows-rooted}
use Rattle.tables.proofs.rows.rows_fit.Goals.{Start}
use Rattle.tables.proofs.rows.rows_fit.Goals as goal

-- What is lent.
abbrev lent : Start → Columns
lent c = read_columns c.args.table.now

pub returns-then-count-eq0 : goal.returns-then-count-eq0
returns-then-count-eq0 c =
    rows_none c.args.words.now (lent (goal.at.returns-then-count-eq0 c).Start) c.args.count c.if-count-eq0.true

pub later_rows_fit-requires : goal.later_rows_fit-requires
later_rows_fit-requires c =
    (c.requires, root-at (lent (goal.at.later_rows_fit-requires c).Start) c.args.count c.if-count-eq0.false (ap root_cells (sym c.row_cells.ensures) ∙ sym c.root_fits.ensures ∙ c.if-root_fits.true))

pub returns-then-root_fits : goal.returns-then-root_fits
returns-then-root_fits c =
    c.later_rows_fit.ensures ∙ rows-rooted c.args.words.now (lent (goal.at.returns-then-root_fits c).Start) c.args.count c.if-count-eq0.false (ap root_cells (sym c.row_cells.ensures) ∙ sym c.root_fits.ensures ∙ c.if-root_fits.true)

pub returns-else-root_fits : goal.returns-else-root_fits
returns-else-root_fits c =
    c.if-root_fits.false ∙ rows-rootless c.args.words.now (lent (goal.at.returns-else-root_fits c).Start) c.args.count c.if-count-eq0.false (ap root_cells (sym c.row_cells.ensures) ∙ sym c.root_fits.ensures ∙ c.if-root_fits.false)
