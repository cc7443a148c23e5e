use native.Mathlib.Omega.{arith}
use Rattle.selection.specs.first_paths.Firsts.{noting-first, noting-next, noting-all}
use Rattle.selection.proofs.first_paths.note.Goals as goal

pub loop-r-init : goal.loop-r-init
loop-r-init c = noting-first _ _ _

pub bounds-firsts-r : goal.bounds-firsts-r
bounds-firsts-r c = omega (arith, c.loop-r.invariant.long)

pub bounds-firsts-r-in-loop-r : goal.bounds-firsts-r-in-loop-r
bounds-firsts-r-in-loop-r c = omega (arith, c.loop-r.invariant.long)

pub loop-r-preserved : goal.loop-r-preserved
loop-r-preserved c =
    let at = c.loop-r in
    noting-next _ _ _ at.r at.firsts _ c.requires at.invariant (omega arith) c.first_of.ensures

pub shape_of-firsts : goal.shape_of-firsts
shape_of-firsts c = c.loop-r.invariant.long

pub returns : goal.returns
returns c =
    let at = c.loop-r in
    noting-all _ _ _ at.r at.firsts at.invariant (omega arith)
