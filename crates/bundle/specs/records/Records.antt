-- What the bundle reader's code answers and hands back is the library's outcome and record of a bundle, and its test of refusal 1 the
-- library's test.
use Rattle.std.specs.Prelude.{Bool, cond, ◌&&◌, List, ◌≡◌, ℕ, ◌≤◌, leb, take}
use Rattle.std.proofs.Math.Bool.{true, false}
use Rattle.std.proofs.Math.Option.{none, some}
use Rattle.std.proofs.Math.Path.{refl}
use Rattle.std.proofs.Common.{sym, ap, ap₂, ◌∙◌, leb→le}
use Rattle.bundle.specs.Judging.{sized}
use Rattle.bundle.specs.declared.reader.BundleRead.{BundleRead}
use Rattle.bundle.specs.reader.Records.{ReadAs, passes_bundle_record}
use Rattle.compiled_schema.specs.records.Records.{record_with, refusal_in}
use Rattle.library_spec.specs.Calls.{record_after, bundle_read}
use Rattle.library_spec.specs.Records.{passes_schema, passes_bundle, schema_held}
use Rattle.path_spec.specs.Paths.{LocationPath}
use Rattle.path_spec.specs.Reading.{read_bundle, is_bundle_record}
use Rattle.schema_reader.specs.Records.{passes_record}
use Rattle.schema_reader.specs.Sizes.{record-low}
use Rattle.schema_spec.specs.Records.{schema_in, record_by}
use Rattle.schema_spec.specs.Schemas.{Schema}
use Rattle.text.specs.refusals.Refusals.{outcome_of}
use Rattle.text_laws.specs.Tests.{and_cases, passed, true_of}
use Rattle.text_spec.specs.Calls.{tested, handed}
use Rattle.text_spec.specs.Cells.{padded}
use Rattle.text_spec.specs.Limits.{max_schema_bytes, max_bundle_bytes}
use Rattle.text_spec.specs.Lists.{same_bytes}
use Rattle.text_spec.specs.Records.{TextRecord, record_of}
use Rattle.text_spec.specs.Refusals.{Outcome, accepted, refused, and_then}

module _ (cells : List ℕ) (size : ℕ) (text : List ℕ) where
  abbrev schema : Schema
  schema = schema_in (take size cells)

  -- what is answered where the bundle text is accepted
  abbrev whole : Outcome (List (LocationPath ℕ)) → Outcome TextRecord
  whole o = and_then o (λ ps. accepted (record_of max_bundle_bytes text))

  abbrev call : Bool → Outcome TextRecord
  call b = handed (cond b (some schema) none) (λ s. whole (read_bundle s text))

  called : bundle_read (record_with cells size) text ≡ call (passes_record cells size)
  unfolding bundle_read schema_held passes_schema
  called = refl

  same-record : (b : Bool) → record_of max_bundle_bytes (record_by (tested b (read_bundle schema text)) text) ≡ record_after max_bundle_bytes (call b)
  unfolding record_after
  same-record false = refl
  same-record true = go (read_bundle schema text)
    where
      go : (o : Outcome (List (LocationPath ℕ))) → record_of max_bundle_bytes (record_by o text) ≡ record_after max_bundle_bytes (whole o)
      go (accepted ps) = refl
      go (refused f) = refl

  same-refusal : (b : Bool) → refusal_in (sized (tested b (read_bundle schema text))) ≡ refusal_in (call b)
  same-refusal false = refl
  same-refusal true = go (read_bundle schema text)
    where
      go : (o : Outcome (List (LocationPath ℕ))) → refusal_in (sized o) ≡ refusal_in (whole o)
      go (accepted ps) = refl
      go (refused f) = refl

  module _ (r : BundleRead) (R : ReadAs cells size text r) where
    -- The record that reading a text hands back, the empty one on refusal.
    pub read-record : record_with r.bundle.bytes r.bundle.len ≡ record_after max_bundle_bytes (bundle_read (record_with cells size) text)
    read-record = ap₂ record_with R.bytes R.size ∙ same-record (passes_record cells size) ∙ ap (record_after max_bundle_bytes) (sym called)

    -- The refusal that it answers, with its place, or none.
    pub read-refusal : refusal_in (outcome_of r.judgement) ≡ refusal_in (bundle_read (record_with cells size) text)
    read-refusal = ap refusal_in R.outcome ∙ same-refusal (passes_record cells size) ∙ ap refusal_in (sym called)

-- Refusal 1 on a bundle's record under a schema.
pub passes-bundle : (s : Schema) (cells : List ℕ) (size : ℕ) → passes_bundle_record s cells size ≡ passes_bundle s (record_with cells size)
unfolding passes_bundle
passes-bundle s cells size = refl

-- The test on both records: the schema's passes, and the bundle's under the schema in it.
pub passes-both : (cells : List ℕ) (size : ℕ) (bundle : List ℕ) (n : ℕ)
    → (passes_record cells size && passes_bundle_record (schema_in (take size cells)) bundle n)
    ≡ (passes_schema (record_with cells size) && passes_bundle (schema_in (take size cells)) (record_with bundle n))
unfolding passes_schema passes_bundle
passes-both cells size bundle n = refl

-- Where both records pass, each text lies within its cells.
module _ (cells : List ℕ) (size : ℕ) (bundle : List ℕ) (n : ℕ) (both : (passes_record cells size && passes_bundle_record (schema_in (take size cells)) bundle n) ≡ true) where
  pub schema-size : size ≤ max_schema_bytes
  schema-size = record-low cells size (true_of (passes_record cells size) (and_cases (passes_record cells size) (passes_bundle_record (schema_in (take size cells)) bundle n) (passed both)).0)

  pub bundle-size : n ≤ max_bundle_bytes
  bundle-size =
      leb→le n max_bundle_bytes
      (and_cases (leb n max_bundle_bytes) (same_bytes bundle (padded max_bundle_bytes (take n bundle)))
      (and_cases (leb n max_bundle_bytes && same_bytes bundle (padded max_bundle_bytes (take n bundle))) (is_bundle_record (schema_in (take size cells)) (take n bundle)) (and_cases (passes_record cells size) (passes_bundle_record (schema_in (take size cells)) bundle n) (passed both)).1).0).0
