-- `path` meets its contract: step by step, up to the line feed.
use Rattle.std.proofs.Common.{◌-◌, length}
use Rattle.bundle_text.specs.written_steps.Lines.{Upto}
use Rattle.bundle_text.proofs.lines.path.Given as goal

abbrev pub invariant-loop-step : goal.invariant-loop-step
invariant-loop-step l = Upto l.s l.at l.initial.notes l.notes l.i l.over_limit

abbrev pub decreases-loop-step : goal.decreases-loop-step
decreases-loop-step l = length l.s - l.i
