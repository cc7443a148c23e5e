-- `written_step` meets its contract: the step, and then its count.
use Rattle.bundle_text.proofs.written_steps.Steps.{counted-reads}
use Rattle.bundle_text.proofs.written_steps.written_step.Goals as goal

pub returns : goal.returns
returns c = counted-reads c.uncounted_step.ensures c.in_ok-past.was c.count_outer.ensures
