-- `uncounted_step` meets its contract: a step without brackets, and then its brackets.
use Rattle.bundle_text.proofs.written_steps.Steps.{uncounted-reads}
use Rattle.bundle_text.proofs.written_steps.uncounted_step.Goals as goal

pub returns : goal.returns
returns c = uncounted-reads c.plain_step.ensures c.in_ok-step.was c.brackets.ensures c.in_ok-past.was c.note_cell.ensures
