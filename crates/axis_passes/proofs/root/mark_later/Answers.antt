use Rattle.axis_passes.specs.root.Roots.{later-set}
use Rattle.axis_passes.proofs.root.mark_later.Goals as goal

pub returns : goal.returns
returns c = later-set _ _ c.requires (c.fill.ensures.after (λ y e. e))
