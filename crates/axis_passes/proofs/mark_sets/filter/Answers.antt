use Rattle.std.proofs.Common.{ap, ◌∙◌, arith}
use Rattle.axis_passes.specs.name_tests.Tests.{bool-mark}
use Rattle.cells.specs.row_sets.Loops.{forward-none, forward-all}
use Rattle.selection_laws.specs.marks.Passes.{filter-next, filter-length}
use Rattle.cells.specs.row_sets.Columns.{mark}
use Rattle.axis_passes.proofs.mark_sets.filter.Goals as goal

pub loop-r-init : goal.loop-r-init
loop-r-init c = forward-none _ _

pub loop-r-preserved : goal.loop-r-preserved
loop-r-preserved c =
    let at = c.loop-r in
    filter-next _ _ _ _ _ c.requires at.r at.out _ (omega (arith, c.requires.codes-size, at.invariant.size)) (c.from.ensures ∙ bool-mark _ ∙ ap mark c.in_range.ensures) at.invariant

pub returns : goal.returns
returns c =
    let at = c.loop-r in
    forward-all _ _ at.r at.out (filter-length _ _ _ _ _ c.requires) at.invariant (omega (arith, c.requires.codes-size))
