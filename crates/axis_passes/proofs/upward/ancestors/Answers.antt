use Rattle.std.proofs.Common.{rules}
use Rattle.axis_passes.specs.upward.Upward.{cleared}
use Rattle.selection_laws.specs.marks.Passes.{to-ancestor, ancestors-start, ancestors-mark}
use Rattle.axis_passes.proofs.upward.ancestors.Goals as goal

pub returns : goal.returns
returns c = c.pass_up.ensures to-ancestor (record { start = cleared to-ancestor c.requires (ancestors-start _ _ _ c.requires) (c.fill.ensures.after (λ y e. e)); turn = λ r x some l d. search (rules, ancestors-mark _ _ _ c.requires r some l) })
