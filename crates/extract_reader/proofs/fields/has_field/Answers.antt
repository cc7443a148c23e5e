-- `has_field` meets its contract: three bytes, and as many as they say.
use mathlib.Core.Path.{◌∙◌}
use borrow.Author.Tests.{lt-leb}
use Rattle.extract_reader.specs.fields.FieldLaws.{field-short, field-measured}
use Rattle.extract_reader.proofs.fields.has_field.Goals as goal

pub returns-else-extract-at-ge3 : goal.returns-else-extract-at-ge3
returns-else-extract-at-ge3 c = lt-leb _ _ c.if-extract-at-ge3.false ∙ field-short _ _ c.requires c.if-extract-at-ge3.false

pub returns-then-extract-at-ge3 : goal.returns-then-extract-at-ge3
returns-then-extract-at-ge3 c = field-measured _ _ c.requires _ c.if-extract-at-ge3.true c.two_bytes.ensures
