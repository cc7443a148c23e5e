use Rattle.std.proofs.Common.{rules}
use Rattle.axis_passes.specs.upward.Upward.{cleared}
use Rattle.selection_laws.specs.marks.Passes.{to-parent, parents-start, parents-mark}
use Rattle.axis_passes.proofs.upward.parents_of.Goals as goal

pub returns : goal.returns
returns c = c.pass_up.ensures to-parent (record { start = cleared to-parent c.requires (parents-start _ _ _ c.requires) (c.fill.ensures.after (λ y e. e)); turn = λ r x some l d. search (rules, parents-mark _ _ _ c.requires r some l) })
