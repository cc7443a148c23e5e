use native.Mathlib.Omega.{arith}
use Rattle.cells.specs.row_sets.Loops.{forward-none, forward-all}
use Rattle.selection_laws.specs.marks.Passes.{intersection-next, intersection-length}
use Rattle.axis_passes.proofs.mark_sets.intersect.Goals as goal

pub loop-r-init : goal.loop-r-init
loop-r-init c = forward-none _ _

pub loop-r-preserved : goal.loop-r-preserved
loop-r-preserved c =
    let at = c.loop-r in
    intersection-next _ _ c.requires at.r at.out (omega arith) at.invariant

pub returns : goal.returns
returns c =
    let at = c.loop-r in
    forward-all _ _ at.r at.out (intersection-length _ _ c.requires) at.invariant (omega arith)
