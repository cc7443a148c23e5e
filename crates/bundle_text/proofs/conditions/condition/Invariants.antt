-- `condition` meets its contract: alternative by alternative.
use Rattle.std.proofs.Common.{◌-◌, length}
use Rattle.bundle_text.specs.alternatives.ConditionLaws.{Upto}
use Rattle.bundle_text.proofs.conditions.condition.Given as goal

abbrev pub invariant-loop-end : goal.invariant-loop-end
invariant-loop-end l = Upto l.s l.at l.initial.notes l.notes l.i l.count l.long

abbrev pub decreases-loop-end : goal.decreases-loop-end
decreases-loop-end l = length l.s - l.i
