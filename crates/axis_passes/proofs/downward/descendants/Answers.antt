use Rattle.std.proofs.Common.{rules}
use Rattle.axis_passes.specs.downward.Downward.{down-image}
use Rattle.path_spec.specs.Paths.{descendant}
use Rattle.selection_laws.specs.marks.Passes.{descendants-root, descendants-at}
use Rattle.axis_passes.proofs.downward.descendants.Goals as goal

pub returns : goal.returns
returns c = down-image c.requires c.pass_down.ensures descendant (descendants-root _ _ _ c.requires) (λ r x some l d. search (rules, descendants-at _ _ _ c.requires r some l))
