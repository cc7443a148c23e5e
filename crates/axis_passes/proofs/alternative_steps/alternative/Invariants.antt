use Rattle.axis_passes.specs.alternative_steps.Alternatives.{StepsBack}
use Rattle.axis_passes.proofs.alternative_steps.alternative.Given as goal

abbrev pub invariant-loop-k : goal.invariant-loop-k
invariant-loop-k l = StepsBack l.fn.rows l.fn.paths.steps l.fn.steps.start l.fn.steps.end l.k l.fn.scratch l.scratch
