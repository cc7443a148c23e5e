-- `judge_under` meets its contract: under the names of the schema in the text.
use Rattle.bundle.proofs.reader.Under.{under-named}
use Rattle.schema_spec.specs.Records.{schema_in}
use Rattle.bundle.proofs.reader.judge_under.Goals as goal

pub returns : goal.returns
returns c = c.judge_bundle.ensures.under (schema_in c.args.schema.now) (under-named c.judge_into.ensures c.unwrap_or-count.ensures)
