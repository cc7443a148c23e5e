use Rattle.selection.specs.Steps.{StepsSoFar}
use Rattle.selection.proofs.steps_from.Given as goal

abbrev pub invariant-loop-k : goal.invariant-loop-k
invariant-loop-k l = StepsSoFar l.fn.rows l.fn.paths l.fn.steps.start l.fn.steps.end l.initial.marks l.k l.marks l.fn.scratch l.scratch
