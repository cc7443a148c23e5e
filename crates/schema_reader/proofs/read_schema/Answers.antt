-- `read_schema` meets its contract: the answer, and the record that it hands back.
use Rattle.schema_reader.proofs.Records.{read_as}
use Rattle.schema_reader.proofs.read_schema.Goals as goal

pub returns : goal.returns
returns c = read_as c.args.text.now _ _ c.judge_schema-judgement.ensures c.record_of-schema.ensures
