use native.Mathlib.Omega.{arith}
use Rattle.selection.specs.row_numbers.Cells.{appending-none, appending-next, appending-all, mark-small}
use Rattle.selection.proofs.row_numbers.append_checked.Goals as goal

pub loop-r-init : goal.loop-r-init
loop-r-init c = appending-none _ _ _ _

pub offset_bounds-numbers-r : goal.offset_bounds-numbers-r
offset_bounds-numbers-r c = omega (arith, c.requires.size)

pub bounds-numbers-r : goal.bounds-numbers-r
bounds-numbers-r c = omega (arith, c.requires.size)

pub overflow_add-n : goal.overflow_add-n
overflow_add-n c = omega (arith, c.from-n.ensures, mark-small _ c.requires.marked c.loop-r.r (omega arith), c.loop-r.invariant.few, c.requires.few, c.requires.low)

pub loop-r-preserved : goal.loop-r-preserved
loop-r-preserved c =
    let at = c.loop-r in
    rw c.from-n.ensures (appending-next _ _ _ _ c.requires at.r at.n at.out at.invariant (omega arith) _ c.put.ensures)

pub returns : goal.returns
returns c =
    let at = c.loop-r in
    appending-all _ _ _ _ at.r at.n at.out at.invariant (omega arith)
