use Rattle.axis_passes.specs.alternatives.Alternatives.{AlternativesSoFar}
use Rattle.std.proofs.Common.{◌-◌}
use Rattle.axis_passes.proofs.alternatives.condition.Given as goal

abbrev pub invariant-loop-k : goal.invariant-loop-k
invariant-loop-k l = AlternativesSoFar l.fn.rows l.fn.paths.steps l.fn.steps.start l.fn.steps.end l.k l.fn.scratch l.scratch

abbrev pub decreases-loop-k : goal.decreases-loop-k
decreases-loop-k l = l.fn.steps.end - l.k
