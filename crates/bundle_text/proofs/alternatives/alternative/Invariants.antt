-- `alternative` meets its contract: step by step.
use Rattle.std.proofs.Common.{◌-◌, length}
use Rattle.bundle_text.proofs.alternatives.Reading.{UpTo}
use Rattle.bundle_text.proofs.alternatives.alternative.Given as goal

abbrev pub invariant-loop-step : goal.invariant-loop-step
invariant-loop-step l = UpTo l.s l.at l.initial.notes l.notes l.i

abbrev pub decreases-loop-step : goal.decreases-loop-step
decreases-loop-step l = length l.s - l.i
