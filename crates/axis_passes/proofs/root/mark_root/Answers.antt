use Rattle.axis_passes.specs.root.Roots.{root-set}
use Rattle.axis_passes.proofs.root.mark_root.Goals as goal

pub returns : goal.returns
returns c = root-set _ _ c.requires (c.fill.ensures.after (λ y e. e))
