-- What the schema reader hands back, in the definition's terms.
use Rattle.std.specs.Prelude.{Bool, ◌&&◌, List, ◌≡◌, ℕ, leb, length, take}
use Rattle.schema.specs.Judging.{sized}
use Rattle.schema_reader.specs.declared.SchemaRead.{SchemaRead}
use Rattle.schema_spec.specs.Reading.{read_schema}
use Rattle.schema_spec.specs.Records.{schema_record, is_schema_record}
use Rattle.text.specs.refusals.Refusals.{outcome_of}
use Rattle.text_spec.specs.Cells.{padded}
use Rattle.text_spec.specs.Limits.{max_schema_bytes}
use Rattle.text_spec.specs.Lists.{same_bytes}

-- reading a text answers so: the outcome, and the record, which is the empty one on refusal
pub record ReadAs (text : List ℕ) (r : SchemaRead) : Type 0 where
  pub outcome : outcome_of r.judgement ≡ sized (read_schema text)
  pub bytes : r.schema.bytes ≡ padded max_schema_bytes (schema_record text)
  pub size : r.schema.len ≡ length (schema_record text)

-- Refusal 1: a record in cells, with its length, is one that an accepted text gives.
abbrev pub passes_record : List ℕ → ℕ → Bool
passes_record cells size = (leb size max_schema_bytes && same_bytes cells (padded max_schema_bytes (take size cells))) && is_schema_record (take size cells)
