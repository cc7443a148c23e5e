-- `close` meets its contract: the byte is `)` or not.
use Rattle.bundle_text.proofs.steps.Steps.{close-past, close-not}
use Rattle.bundle_text.proofs.steps.close.Goals as goal

pub returns-then-stands : goal.returns-then-stands
returns-then-stands c = close-past c.stands.ensures c.args.test c.requires c.if-stands.true

pub returns-else-stands : goal.returns-else-stands
returns-else-stands c = close-not c.stands.ensures c.args.test c.if-stands.false
