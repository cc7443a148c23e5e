use Prim.Native.Nat.{◌-◌}
use native.Mathlib.Omega.{arith}
use lib.ListN.{length-set}
use Rattle.axis_passes.specs.siblings.Preceding.{preceding-begun, parent-inside, parent-kept, preceding-next, preceding-all}
use Rattle.axis_passes.proofs.siblings.preceding_siblings.Goals as goal

pub loop-r-init : goal.loop-r-init
loop-r-init c = preceding-begun _ _ _ _ c.requires (c.fill.ensures.after (λ y e. e))

pub overflow_cast-p : goal.overflow_cast-p
overflow_cast-p c = omega (arith, c.type_inv.parents (c.loop-r.r - 1))

pub bounds-out-p : goal.bounds-out-p
bounds-out-p c =
    let at = c.loop-r in
    parent-inside _ _ at.r at.out at.invariant (omega arith)

pub bounds-out-p-in-loop-r : goal.bounds-out-p-in-loop-r
bounds-out-p-in-loop-r c =
    let at = c.loop-r in
    parent-kept _ _ at.r at.out at.invariant (omega arith)

pub loop-r-preserved : goal.loop-r-preserved
loop-r-preserved c =
    let at = c.loop-r in
    preceding-next _ _ at.r at.out at.invariant (omega arith)

pub shape_of-out : goal.shape_of-out
shape_of-out c = omega (arith, length-set c.loop-r.out 0 0, c.loop-r.invariant.pass.room, c.requires.room)

pub returns : goal.returns
returns c =
    let at = c.loop-r in
    preceding-all _ _ at.r at.out at.invariant (omega arith)
