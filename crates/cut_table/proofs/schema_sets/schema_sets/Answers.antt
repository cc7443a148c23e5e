-- `schema_sets` meets its contract: both sets come from the compiled text in the record.
use Rattle.compiled_schema.specs.Places.{compiled-few}
use Rattle.compiled_schema.specs.held_words.Words.{words-held}
use Rattle.schema_laws.specs.Accepted.{schema_in-length}
use Rattle.cut_table.proofs.schema_sets.schema_sets.Goals as goal

pub names-all-requires : goal.names-all-requires
names-all-requires c = compiled-few _ _ c.compile-compiled.ensures

pub returns : goal.returns
returns c =
    let made = c.compile-compiled.ensures in
    record {
      few = schema_in-length _;
      words = words-held _ (schema_in-length _) _ made.held _ c.held_words-words.ensures;
      names = c.names-all.ensures _ made.held made.counted;
    }
