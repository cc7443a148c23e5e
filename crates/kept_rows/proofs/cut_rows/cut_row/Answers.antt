use Rattle.std.proofs.Common.{rules}
use Rattle.kept_rows.specs.cut_rows.Rows.{row_cut, row_kept}
use Rattle.kept_rows.proofs.cut_rows.cut_row.Goals as goal

pub returns-then-x-eq-NOT_KEPT : goal.returns-then-x-eq-NOT_KEPT
returns-then-x-eq-NOT_KEPT c = record { same = search rules; cells = row_cut _ _ _ c.args.r c.if-x-eq-NOT_KEPT.true }

pub returns : goal.returns
returns c = record { same = search rules; cells = row_kept _ _ _ c.args.r c.if-x-eq-NOT_KEPT.false }
