use Rattle.std.proofs.Common.{arith}
use Rattle.axis_passes.specs.name_tests.Ranges.{range-marked}
use Rattle.axis_passes.specs.name_tests.Tests.{kept-length, kept-next}
use Rattle.cells.specs.row_sets.Loops.{forward-none, forward-all}
use Rattle.axis_passes.proofs.name_tests.filter_test.Goals as goal

pub loop-r-init : goal.loop-r-init
loop-r-init c = forward-none _ _

pub loop-r-preserved : goal.loop-r-preserved
loop-r-preserved c =
    let at = c.loop-r in
    rw c.from.ensures (kept-next _ _ _ _ c.requires at.r at.out c.passes.result (omega (arith, c.requires.columns.codes-size, at.invariant.size)) (c.passes.ensures (c.requires.coded at.r)) at.invariant)

pub returns-clause-marks : goal.returns-clause-marks
returns-clause-marks c =
    let at = c.loop-r in
    forward-all _ _ at.r at.out (kept-length _ _ _ _ c.requires) at.invariant (omega (arith, c.requires.columns.codes-size))

pub returns-clause-range : goal.returns-clause-range
returns-clause-range c =
    let at = c.loop-r in
    λ low high h. range-marked low high _ _ _ _ c.requires.coded (forward-all _ _ at.r at.out (kept-length _ _ _ _ c.requires) at.invariant (omega (arith, c.requires.columns.codes-size))) h
