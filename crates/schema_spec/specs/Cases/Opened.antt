-- One name that opens all definitions with which a case of schemas computes: `unfolding computing`.
use Rattle.schema_spec.specs.Closure.{by_way_of, closure}
use Rattle.schema_spec.specs.Machine.{step, parse}
use Rattle.schema_spec.specs.Names.{names_of, set_of_word, word_of_set}
use Rattle.schema_spec.specs.Reading.{schema_refusals, read_schema}
use Rattle.schema_spec.specs.Records.{normal, schema_in, is_schema_record}
use Rattle.schema_spec.specs.Schemas.{schema_of, element_named}
use Rattle.schema_spec.specs.Types.{holds, types_of}
use Rattle.text_spec.specs.Machines.{run}
use Rattle.text_spec.specs.Refusals.{first_of}

unfoldable pub computing : Unit {0}
unfolding first_of run step parse schema_of element_named schema_refusals read_schema normal schema_in is_schema_record names_of set_of_word word_of_set by_way_of closure holds types_of
computing = tt
