use native.Mathlib.Omega.{arith}
use Rattle.axis_passes.specs.siblings.Following.{following-begun, following-all, parent-inside, own-inside, following-next}
use Rattle.axis_passes.proofs.siblings.following_siblings.Goals as goal

pub loop-r-init : goal.loop-r-init
loop-r-init c = following-begun _ _ _ c.requires

pub overflow_cast-p : goal.overflow_cast-p
overflow_cast-p c = omega (arith, c.type_inv.parents c.loop-r.r)

pub bounds-from-p : goal.bounds-from-p
bounds-from-p c =
    let at = c.loop-r in
    parent-inside _ _ _ at.r at.from at.out at.invariant (omega arith)

pub bounds-from-p-in-loop-r : goal.bounds-from-p-in-loop-r
bounds-from-p-in-loop-r c =
    let at = c.loop-r in
    parent-inside _ _ _ at.r at.from at.out at.invariant (omega arith)

pub bounds-from-r-in-loop-r : goal.bounds-from-r-in-loop-r
bounds-from-r-in-loop-r c =
    let at = c.loop-r in
    own-inside _ _ _ at.r at.from at.out at.invariant (omega arith)

pub loop-r-preserved : goal.loop-r-preserved
loop-r-preserved c =
    let at = c.loop-r in
    following-next _ _ _ at.r at.from at.out at.invariant (omega arith)

pub returns : goal.returns
returns c =
    let at = c.loop-r in
    following-all _ _ _ c.requires at.r at.from at.out at.invariant (omega arith)
