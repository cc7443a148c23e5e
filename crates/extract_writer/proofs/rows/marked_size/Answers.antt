use mathlib.Core.Path.{◌∙◌}
use Rattle.extract_writer.specs.rows.Measure.{size-marked, size-unmarked}
use Rattle.extract_writer.proofs.rows.marked_size.Goals as goal

pub returns-then-mark-eq-MARKED : goal.returns-then-mark-eq-MARKED
returns-then-mark-eq-MARKED c = c.field_size.ensures ∙ size-marked _ _ _ c.if-mark-eq-MARKED.true

pub returns-else-mark-eq-MARKED : goal.returns-else-mark-eq-MARKED
returns-else-mark-eq-MARKED c = size-unmarked _ _ _ c.if-mark-eq-MARKED.false
