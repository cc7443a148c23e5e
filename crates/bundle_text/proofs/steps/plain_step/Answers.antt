-- `plain_step` meets its contract: the axis, and then the test.
use Rattle.bundle_text.proofs.steps.Steps.{plain-past}
use Rattle.bundle_text.proofs.steps.plain_step.Goals as goal

pub returns : goal.returns
returns c = plain-past c.axis.ensures c.in_ok-axis.was c.node_test.ensures c.in_ok-test.was
