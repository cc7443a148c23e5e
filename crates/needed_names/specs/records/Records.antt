-- The needed names of records, as the library's outcome.
use Rattle.std.specs.Prelude.{Bool, cond, ◌&&◌, List, [], ◌≡◌, ℕ, T, leb, take, Ok, Err}
use Rattle.std.proofs.Math.Bool.{true, false}
use Rattle.std.proofs.Math.Option.{none, some}
use Rattle.std.proofs.Math.Path.{refl, sym, ap}
use Rattle.std.proofs.Common.{◌∙◌}
use Rattle.bundle.specs.reader.Records.{passes_bundle_record}
use Rattle.compiled_schema.specs.records.Records.{record_with}
use Rattle.inference_spec.specs.Needed.{needed_word}
use Rattle.library_spec.specs.Calls.{needed_names}
use Rattle.library_spec.specs.Records.{schema_held, bundle_held, passes_schema, passes_bundle}
use Rattle.needed_names.specs.texts.Texts.{NeededBy}
use Rattle.path_spec.specs.Reading.{read_bundle}
use Rattle.schema_laws.specs.Records.{record-accepted}
use Rattle.schema_reader.specs.Records.{passes_record}
use Rattle.schema_spec.specs.Records.{schema_in, is_schema_record}
use Rattle.schema_spec.specs.Schemas.{Schema}
use Rattle.schema_spec.specs.Types.{types_of}
use Rattle.text.specs.declared.refusals.Reason.TheVariants.{BadRecord}
use Rattle.text.specs.refusals.Refusals.{refusal, outcome_of}
use Rattle.text_laws.specs.Tests.{and_cases, passed, failed, true_of}
use Rattle.text_spec.specs.Calls.{handed}
use Rattle.text_spec.specs.Cells.{padded}
use Rattle.text_spec.specs.Limits.{max_schema_bytes}
use Rattle.text_spec.specs.Lists.{same_bytes}
use Rattle.text_spec.specs.Refusals.{Outcome, accepted, result_or}

module _ (cells : List ℕ) (size : ℕ) (bundle : List ℕ) (n : ℕ) where
  abbrev schema : Schema
  schema = schema_in (take size cells)

  -- the outcome by the two tests of refusal 1
  outcome : Bool → Outcome ℕ
  outcome p = handed (cond p (some schema) none) (λ s. handed (bundle_held s (record_with bundle n)) (λ ps. accepted (needed_word (types_of s) ps)))

  under : Bool → Outcome ℕ
  under q = handed (cond q (some (result_or [] (read_bundle schema (take n bundle)))) none) (λ ps. accepted (needed_word (types_of schema) ps))

  called : needed_names (record_with cells size) (record_with bundle n) ≡ outcome (passes_record cells size)
  unfolding needed_names schema_held passes_schema outcome
  called = refl

  judged : outcome true ≡ under (passes_bundle_record schema bundle n)
  unfolding outcome under bundle_held passes_bundle
  judged = refl

  -- one of them fails
  pub not-records : (passes_record cells size && passes_bundle_record schema bundle n) ≡ false → outcome_of (Err (refusal BadRecord 0)) ≡ needed_names (record_with cells size) (record_with bundle n)
  unfolding outcome under
  not-records = pick (passes_record cells size) (passes_bundle_record schema bundle n) refl refl
    where
      pick : (p q : Bool) → passes_record cells size ≡ p → passes_bundle_record schema bundle n ≡ q → (p && q) ≡ false
          → outcome_of (Err (refusal BadRecord 0)) ≡ needed_names (record_with cells size) (record_with bundle n)
      pick false q e f h = sym (called ∙ ap outcome e)
      pick true false e f h = sym (called ∙ ap outcome e ∙ judged ∙ ap under f)
      pick true true e f h = absurd (failed h tt)

  -- both pass
  module _ (both : (passes_record cells size && passes_bundle_record schema bundle n) ≡ true) where
    first : T (passes_record cells size)
    first = (and_cases (passes_record cells size) (passes_bundle_record schema bundle n) (passed both)).0

    second : T (passes_bundle_record schema bundle n)
    second = (and_cases (passes_record cells size) (passes_bundle_record schema bundle n) (passed both)).1

    pub both-records : (w : ℕ) → NeededBy (take size cells) (take n bundle) w → outcome_of (Ok w) ≡ needed_names (record_with cells size) (record_with bundle n)
    unfolding NeededBy outcome under
    both-records w h =
        ap accepted (h (record-accepted (take size cells) (and_cases (leb size max_schema_bytes && same_bytes cells (padded max_schema_bytes (take size cells))) (is_schema_record (take size cells)) first).1))
        ∙ sym (called ∙ ap outcome (true_of (passes_record cells size) first) ∙ judged ∙ ap under (true_of (passes_bundle_record schema bundle n) second))
