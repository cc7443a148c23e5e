use Rattle.std.proofs.Common.{◌∙◌, rules}
use Rattle.selection_laws.specs.marks.Passes.{to-ancestor-or-self, ancestors-or-self-start, ancestors-or-self-mark}
use Rattle.axis_passes.proofs.upward.ancestors_or_self.Goals as goal

pub returns : goal.returns
returns c = c.pass_up.ensures to-ancestor-or-self (record { start = c.copy.ensures ∙ ancestors-or-self-start _ _ _ c.requires; turn = λ r x some l d. search (rules, ancestors-or-self-mark _ _ _ c.requires r some l) })
