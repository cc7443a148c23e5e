-- `brackets` meets its contract: a condition, or none.
use Rattle.bundle_text.proofs.written_steps.Steps.{brackets-none, brackets-some}
use Rattle.bundle_text.proofs.written_steps.brackets.Goals as goal

pub returns-then-stands : goal.returns-then-stands
returns-then-stands c = brackets-some c.stands.ensures c.if-stands.true c.condition.ensures

pub returns : goal.returns
returns c = brackets-none c.stands.ensures c.requires.within c.requires.few c.if-stands.false
