use native.Mathlib.Omega.{arith}
use Rattle.cells.specs.lent.Appended.{written_in}
use Rattle.selection.specs.row_numbers.Cells.{appending-none, appending-next, appending-all, mark-small}
use Rattle.selection.proofs.row_numbers.append_in_room.Goals as goal

pub loop-r-init : goal.loop-r-init
loop-r-init c = appending-none _ _ _ _

pub offset_bounds-numbers-r : goal.offset_bounds-numbers-r
offset_bounds-numbers-r c = omega (arith, c.requires.pass.size)

pub bounds-numbers-r : goal.bounds-numbers-r
bounds-numbers-r c = omega (arith, c.requires.pass.size)

pub offset_bounds-out-n : goal.offset_bounds-out-n
offset_bounds-out-n c =
    omega (arith, c.loop-r.invariant.few, c.loop-r.invariant.so_far.long, c.requires.room)

pub bounds-out-n : goal.bounds-out-n
bounds-out-n c =
    omega (arith, c.loop-r.invariant.few, c.loop-r.invariant.so_far.long, c.requires.room)

pub overflow_add-n : goal.overflow_add-n
overflow_add-n c =
    omega (arith, c.from-n.ensures, mark-small _ c.requires.pass.marked c.loop-r.r (omega arith), c.loop-r.invariant.few, c.requires.pass.few, c.requires.pass.low)

pub loop-r-preserved : goal.loop-r-preserved
loop-r-preserved c =
    let at = c.loop-r in
    rw c.from-n.ensures (appending-next _ _ _ _ c.requires.pass at.r at.n at.out at.invariant (omega arith) _
    (written_in at.out at.n _ (omega (arith, at.invariant.few, at.invariant.so_far.long, c.requires.room))))

pub returns : goal.returns
returns c =
    let at = c.loop-r in
    appending-all _ _ _ _ at.r at.n at.out at.invariant (omega arith)
