use Rattle.std.proofs.Common.{rules}
use Rattle.axis_passes.specs.downward.Downward.{down-image}
use Rattle.path_spec.specs.Paths.{descendant_or_self}
use Rattle.selection_laws.specs.marks.Passes.{descendants-or-self-root, descendants-or-self-at}
use Rattle.axis_passes.proofs.downward.descendants_or_self.Goals as goal

pub returns : goal.returns
returns c = down-image c.requires c.pass_down.ensures descendant_or_self (descendants-or-self-root _ _ _ c.requires) (λ r x some l d. search (rules, descendants-or-self-at _ _ _ c.requires r some l))
