use Rattle.axis_passes.specs.siblings.Preceding.{Preceding}
use Rattle.axis_passes.proofs.siblings.preceding_siblings.Given as goal

abbrev pub invariant-loop-r : goal.invariant-loop-r
invariant-loop-r l = Preceding l.parents l.from l.r l.out

abbrev pub decreases-loop-r : goal.decreases-loop-r
decreases-loop-r l = l.r
