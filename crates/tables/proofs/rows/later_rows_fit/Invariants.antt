-- `later_rows_fit` meets its contract. The outer invariant: the pass from this row on is the whole pass; the inner one: the climb from this row on is the whole climb.
use Prim.Native.Nat.{◌-◌}
use Rattle.cells.specs.columns.Lent.{read_columns}
use Rattle.tables.proofs.rows.Turns.{Rows, Climbing}
use Rattle.tables.proofs.rows.later_rows_fit.Given as goal

abbrev pub invariant-loop-element : goal.invariant-loop-element
invariant-loop-element l = Climbing (read_columns l.table) l.row l.parent l.initial.element l.initial.depth l.element l.depth

abbrev pub decreases-loop-element : goal.decreases-loop-element
decreases-loop-element l = l.depth

abbrev pub invariant-rows : goal.invariant-rows
invariant-rows l = Rows l.words (read_columns l.table) l.count l.element l.depth l.row

abbrev pub decreases-rows : goal.decreases-rows
decreases-rows l = l.count - l.row
