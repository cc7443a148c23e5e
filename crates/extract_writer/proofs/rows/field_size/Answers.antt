use Rattle.extract_writer.specs.rows.Rows.{size-element, size-text}
use Rattle.extract_writer.proofs.rows.field_size.Goals as goal

pub returns-then-name-lt-MAX_ELEMENTS : goal.returns-then-name-lt-MAX_ELEMENTS
returns-then-name-lt-MAX_ELEMENTS c = size-element _ _ c.if-name-lt-MAX_ELEMENTS.true

pub returns-else-name-lt-MAX_ELEMENTS : goal.returns-else-name-lt-MAX_ELEMENTS
returns-else-name-lt-MAX_ELEMENTS c = size-text _ _ c.if-name-lt-MAX_ELEMENTS.false
