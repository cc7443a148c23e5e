use Rattle.std.proofs.Common.{sym, refl}
use native.Mathlib.Omega.{arith}
use Rattle.cells.specs.row_sets.Loops.{forward-none, forward-next, forward-all}
use Rattle.cells.proofs.row_sets.copy.Goals as goal

pub loop-r-init : goal.loop-r-init
loop-r-init c = forward-none _ _

pub loop-r-preserved : goal.loop-r-preserved
loop-r-preserved c =
    let at = c.loop-r in
    forward-next _ _ at.r at.out _ at.invariant (omega arith) refl

pub returns : goal.returns
returns c =
    let at = c.loop-r in
    forward-all _ _ at.r at.out (sym c.requires) at.invariant (omega arith)
