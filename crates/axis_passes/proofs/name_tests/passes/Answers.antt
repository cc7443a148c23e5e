use Rattle.axis_passes.specs.name_tests.Tests.{text-passes, element-passes, other-fails}
use Rattle.axis_passes.proofs.name_tests.passes.Goals as goal

pub returns-in-Text : goal.returns-in-Text
returns-in-Text c = λ l. rw c.in-Text.is (text-passes c.args.code)

pub returns-then-code-element : goal.returns-then-code-element
returns-then-code-element c = λ l. rw c.in-Element.is (element-passes c.in-Element.element c.args.code c.if-code-element.true)

pub returns-else-code-element : goal.returns-else-code-element
returns-else-code-element c = λ l. rw c.in-Element.is (other-fails c.in-Element.element c.args.code c.if-code-element.false)
