use Rattle.std.proofs.Common.{◌∙◌}
use Rattle.selection_laws.specs.marks.Passes.{some-listed}
use Rattle.axis_passes.proofs.mark_sets.any_marked.Goals as goal

pub returns : goal.returns
returns c = c.contains.ensures.value ∙ some-listed _
