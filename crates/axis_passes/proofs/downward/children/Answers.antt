use Rattle.std.proofs.Common.{rules}
use Rattle.axis_passes.specs.downward.Downward.{down-image}
use Rattle.path_spec.specs.Paths.{child}
use Rattle.selection_laws.specs.marks.Passes.{children-root, children-at}
use Rattle.axis_passes.proofs.downward.children.Goals as goal

pub returns : goal.returns
returns c = down-image c.requires c.pass_down.ensures child (children-root _ _ _ c.requires) (λ r x some l d. search (rules, children-at _ _ _ c.requires r some l))
