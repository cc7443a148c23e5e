-- What the schema reader's code answers and hands back is the library's outcome and record of a schema, and its test of refusal 1 the library's test.
use Rattle.std.specs.Prelude.{List, ◌≡◌, ℕ}
use Rattle.std.proofs.Math.Option.{Option, none, some}
use Rattle.std.proofs.Math.Path.{refl, ap, ap₂}
use Rattle.std.proofs.Common.{◌∙◌}
use Rattle.library_spec.specs.Calls.{record_after, schema_read}
use Rattle.library_spec.specs.Records.{passes_schema}
use Rattle.schema.specs.Judging.{sized}
use Rattle.schema_reader.specs.Records.{ReadAs, passes_record}
use Rattle.schema_reader.specs.declared.SchemaRead.{SchemaRead}
use Rattle.schema_spec.specs.Reading.{read_schema}
use Rattle.schema_spec.specs.Records.{normal, record_by, schema_record}
use Rattle.schema_spec.specs.Schemas.{Schema}
use Rattle.text.specs.refusals.Refusals.{outcome_of}
use Rattle.text_spec.specs.Limits.{max_schema_bytes}
use Rattle.text_spec.specs.Records.{TextRecord, record_of}
use Rattle.text_spec.specs.Refusals.{Refusal, Outcome, accepted, refused, and_then}

abbrev pub record_with : List ℕ → ℕ → TextRecord
record_with c n = record { cells = c; size = n }

-- the refusal that an outcome gives
abbrev pub refusal_in : {A : Type 0} → Outcome A → Option Refusal
refusal_in (accepted a) = none
refusal_in (refused f) = some f

module _ (text : List ℕ) where
  -- what is answered where the schema text is accepted
  abbrev whole : Outcome Schema → Outcome TextRecord
  whole o = and_then o (λ s. accepted (record_of max_schema_bytes (normal text)))

  same-record : (o : Outcome Schema) → record_of max_schema_bytes (record_by o (normal text)) ≡ record_after max_schema_bytes (whole o)
  unfolding record_after
  same-record (accepted s) = refl
  same-record (refused f) = refl

  same-refusal : (o : Outcome Schema) → refusal_in (sized o) ≡ refusal_in (whole o)
  same-refusal (accepted s) = refl
  same-refusal (refused f) = refl

  module _ (r : SchemaRead) (R : ReadAs text r) where
    -- The record that reading a text hands back, the empty one on refusal.
    pub read-record : record_with r.schema.bytes r.schema.len ≡ record_after max_schema_bytes (schema_read text)
    unfolding schema_read schema_record
    read-record = ap₂ record_with R.bytes R.size ∙ same-record (read_schema text)

    -- The refusal that it answers, with its place, or none.
    pub read-refusal : refusal_in (outcome_of r.judgement) ≡ refusal_in (schema_read text)
    unfolding schema_read
    read-refusal = ap refusal_in R.outcome ∙ same-refusal (read_schema text)

-- Refusal 1 on a schema's record.
pub passes-schema : (cells : List ℕ) (size : ℕ) → passes_record cells size ≡ passes_schema (record_with cells size)
unfolding passes_schema
passes-schema cells size = refl
