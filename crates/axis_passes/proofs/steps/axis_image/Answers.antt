use Rattle.axis_passes.specs.steps.Steps.{image-self}
use Rattle.axis_passes.proofs.steps.axis_image.Goals as goal

pub returns-in-SelfNode : goal.returns-in-SelfNode
returns-in-SelfNode c = rw c.in-SelfNode.is (image-self _ _ _ _ c.requires c.copy.ensures)
