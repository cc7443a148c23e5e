use Rattle.std.proofs.Common.{◌∙◌}
use Rattle.cells.specs.lent.Appended.{set-written}
use Rattle.cells.proofs.lent.put.Goals as goal

pub returns : goal.returns
returns g c = c.note.ensures ∙ set-written _ _ _
