-- `schema_words` meets its contract: it compiles the text in the record.
use Rattle.compiled_schema.specs.held_words.Words.{words-held}
use Rattle.schema_laws.specs.Accepted.{schema_in-length}
use Rattle.compiled_schema.proofs.record_words.schema_words.Goals as goal

pub returns : goal.returns
returns c = words-held _ (schema_in-length _) _ c.compile.ensures.held _ c.held_words.ensures
