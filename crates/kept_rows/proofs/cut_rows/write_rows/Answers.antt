use Rattle.std.proofs.Common.{arith, rules}
use Rattle.kept_rows.specs.cut_rows.Rows.{rows_none, row-pass, row_next, rows_all}
use Rattle.kept_rows.proofs.cut_rows.write_rows.Goals as goal

pub loop-r-init : goal.loop-r-init
loop-r-init c = (c.requires, search rules, rows_none _ _ _)

pub cut_row-requires : goal.cut_row-requires
cut_row-requires c =
    let at = c.loop-r in
    row-pass _ _ _ at.invariant.0 at.r _ at.invariant.2 (omega arith)

pub loop-r-preserved : goal.loop-r-preserved
loop-r-preserved c =
    let at = c.loop-r in
    (at.invariant.0, search rules, row_next _ _ _ at.invariant.0 at.r _ at.invariant.2 (omega arith) _ c.cut_row.ensures.cells)

pub returns : goal.returns
returns c =
    let at = c.loop-r in
    record { same = at.invariant.1; rows = rows_all _ _ _ _ at.r _ (omega arith) at.invariant.2 }
