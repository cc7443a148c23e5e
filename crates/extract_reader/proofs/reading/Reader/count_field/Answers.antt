-- `count_field` meets its contract: the end, or nothing that may stand here.
use Rattle.extract_reader.specs.fields.FieldLaws.{count-field}
use Rattle.extract_reader.proofs.reading.Reader.count_field.Goals as goal

pub returns : goal.returns
returns c = count-field _ _ _ _ c.is_count.ensures _ c.then_some.ensures
