-- `later_rows_fit` meets its contract. The outer invariant: the pass from this row on is the whole pass; the inner one: the climb from this row on is the whole climb.
use mathlib.Core.Path.{refl, sym, ◌∙◌}
use Rattle.cells.specs.columns.Lent.{read_columns}
use Rattle.table_spec.specs.Columns.{Columns}
use Rattle.tables.proofs.rows.Turns.{row-lent, rows-first, climb-first, climb-next, rows-past, rows-fail, rows-text, rows-element, rows-done}
use Rattle.tables.proofs.rows.later_rows_fit.Goals.{Start, then-not-is_text, else-not-is_text, else-rows-test, then-rows-test+then-loop-element-test+then-depth-eq1, then-rows-test+else-loop-element-test+then-not-row_fits}
use Rattle.tables.proofs.rows.later_rows_fit.Goals as goal

abbrev lent : Start → Columns
lent c = read_columns c.args.table.now

pub rows-init : goal.rows-init
rows-init c =
    rows-first c.args.words.now (lent (goal.at.rows-init c).Start) c.args.count c.requires.1

pub loop-element-init : goal.loop-element-init
loop-element-init c =
    climb-first c.args.words.now (lent (goal.at.loop-element-init c).Start) c.args.count c.rows.element c.rows.depth c.rows.row _ c.rows.invariant

pub loop-element-preserved : goal.loop-element-preserved
loop-element-preserved c =
    climb-next c.args.words.now (lent (goal.at.loop-element-preserved c).Start) c.args.count c.rows.element c.rows.depth c.rows.row _ c.loop-element.element c.loop-element.depth c.rows.invariant c.loop-element.invariant
    c.loop-element-test.true c.if-depth-eq1.false

pub row_fits-requires : goal.row_fits-requires
row_fits-requires c =
    let more = c.rows-test.true in (
      row-lent (lent (goal.at.row_fits-requires c).Start) c.args.count c.rows.row _ _ _ c.loop-element.element c.loop-element.depth c.requires.0 c.rows.invariant.later more c.loop-element.invariant,
      c.loop-element.invariant.shallow,
    )

pub rows-preserved : goal.rows-preserved
rows-preserved c =
    let r = c.rows.invariant in
    let k = c.loop-element.invariant in
    let here = c.loop-element-test.false in
    let fits = sym c.row_fits.ensures ∙ c.if-not-row_fits.false in
    let more = c.rows-test.true in
    let text = sym c.is_text.ensures in
    elim c.if-not-is_text.branch [
      | then-not-is_text w ↦ rw (w.element-is, w.depth-is) (rows-element c.args.words.now (lent (goal.at.rows-preserved c).Start) c.args.count c.rows.element c.rows.depth c.rows.row _ c.loop-element.element c.loop-element.depth refl more r k here fits (text ∙ w.if-not-is_text.true))
      | else-not-is_text w ↦ rw (w.element-is, w.depth-is) (rows-text c.args.words.now (lent (goal.at.rows-preserved c).Start) c.args.count c.rows.element c.rows.depth c.rows.row _ c.loop-element.element c.loop-element.depth refl more r k here fits (text ∙ w.if-not-is_text.false))
    ]

pub returns : goal.returns
returns c =
    let r = c.rows.invariant in
    elim c.rows-test.branch [
      | else-rows-test w ↦ rows-done c.args.words.now (lent (goal.at.returns c).Start) c.args.count _ _ _ r w.rows-test.false
      | then-rows-test+then-loop-element-test+then-depth-eq1 w ↦ rows-past c.args.words.now (lent (goal.at.returns c).Start) c.args.count _ _ _ _ _ _ refl w.rows-test.true r w.loop-element.invariant w.loop-element-test.true w.if-depth-eq1.true
      | then-rows-test+else-loop-element-test+then-not-row_fits w ↦ rows-fail c.args.words.now (lent (goal.at.returns c).Start) c.args.count _ _ _ _ _ _ refl w.rows-test.true r w.loop-element.invariant w.loop-element-test.false (sym w.row_fits.ensures ∙ w.if-not-row_fits.true)
    ]
