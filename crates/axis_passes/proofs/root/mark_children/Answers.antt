use Rattle.std.proofs.Common.{◌∙◌}
use native.Mathlib.Omega.{arith}
use Rattle.axis_passes.specs.root.Roots.{at-root-row, at-root-length, children-set}
use Rattle.cells.specs.row_sets.Loops.{forward-none, forward-next, forward-all}
use Rattle.axis_passes.proofs.root.mark_children.Goals as goal

pub loop-r-init : goal.loop-r-init
loop-r-init c = forward-none _ _

pub bounds-parents-r : goal.bounds-parents-r
bounds-parents-r c = omega (arith, c.requires.room, c.loop-r.invariant.size)

pub loop-r-preserved : goal.loop-r-preserved
loop-r-preserved c =
    let at = c.loop-r in
    forward-next _ _ at.r at.out _ at.invariant (omega (arith, c.requires.room, at.invariant.size)) (c.from.ensures ∙ at-root-row c.args.parents.now at.r (omega arith))

pub bounds-out-0 : goal.bounds-out-0
bounds-out-0 c =
    omega (arith, c.requires.room, c.requires.filled, c.loop-r.invariant.size)

pub returns : goal.returns
returns c =
    let at = c.loop-r in
    children-set c.args.parents.now at.out c.requires.filled
    (forward-all _ _ at.r at.out (at-root-length c.args.parents.now c.args.out.now c.requires.room) at.invariant (omega arith))
