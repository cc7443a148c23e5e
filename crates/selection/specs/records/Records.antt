-- What two records that are handed in hold, and selecting by them as the library's outcome.
use Rattle.std.specs.Prelude.{Bool, cond, ◌&&◌, List, [], map, ◌≡◌, ℕ, take, Result, Ok, Err}
use Rattle.std.proofs.Math.Bool.{true, false}
use Rattle.std.proofs.Math.Option.{none, some}
use Rattle.std.proofs.Math.Path.{refl}
use Rattle.std.proofs.Common.{ap, ◌∙◌}
use Rattle.bundle.specs.Judging.{JudgedUnder}
use Rattle.bundle.specs.reader.Records.{passes_bundle_record}
use Rattle.cells.specs.lent.Ends.{Slice}
use Rattle.compiled_paths.specs.Paths.{Shaped, paths_in}
use Rattle.compiled_paths.specs.declared.CompiledPaths.{CompiledPaths}
use Rattle.compiled_schema.specs.Compiled.{CompiledOf}
use Rattle.compiled_schema.specs.Places.{names_at}
use Rattle.compiled_schema.specs.declared.CompiledSchema.{CompiledSchema}
use Rattle.compiled_schema.specs.held_words.Words.{WordsOf, words-held}
use Rattle.compiled_schema.specs.records.Records.{record_with}
use Rattle.library_spec.specs.Calls.{nodes_selected}
use Rattle.library_spec.specs.Records.{LentTable, schema_held, bundle_held, passes_schema, passes_bundle}
use Rattle.path_spec.specs.Paths.{LocationPath}
use Rattle.path_spec.specs.Reading.{read_bundle}
use Rattle.schema_laws.specs.Accepted.{schema_in-length}
use Rattle.schema_reader.specs.Records.{passes_record}
use Rattle.schema_spec.specs.Records.{schema_in}
use Rattle.schema_spec.specs.Schemas.{Schema}
use Rattle.schema_spec.specs.Types.{types_of}
use Rattle.selection.specs.answers.Answers.{AnsweredSelections, RefusedBy, refused_as, AnsweredCells}
use Rattle.selection.specs.declared.answers.Selected.{Selected}
use Rattle.text.specs.declared.refusals.Reason.TheVariants.{BadRecord}
use Rattle.text.specs.declared.refusals.Refusal.{Refusal}
use Rattle.text.specs.refusals.Refusals.{refusal}
use Rattle.selection.specs.lent.Lent.{SomeSchema, lent_selected}
use Rattle.table_laws.specs.passes.Codes.{HeldWords}
use Rattle.text_spec.specs.Calls.{tested, handed}
use Rattle.text_spec.specs.Records.{TextRecord}
use Rattle.text_spec.specs.Refusals.{Outcome, result_or}

-- ---- definitions
-- a call that selects by two records on a lent table beside a lent text
abbrev pub SelectsNodes : TextRecord → TextRecord → ℕ → LentTable → List ℕ → Slice → Slice → Result Selected Refusal → Type 0
SelectsNodes schema bundle place table lent items counts r = AnsweredCells (nodes_selected schema bundle place table lent) r items counts

-- the paths of a bundle text under every schema whose elements have these names; none where it is refused
pub record PathsUnder (names : List (List ℕ)) (text : List ℕ) (c : CompiledPaths) : Type 0 where
  pub are : (s : Schema) → names ≡ map (λ e. e.name) s → paths_in c ≡ result_or [] (read_bundle s text)
  pub shaped : (s : Schema) → names ≡ map (λ e. e.name) s → Shaped c

-- ---- the records
module _ (cells : List ℕ) (size : ℕ) (bundle : List ℕ) (n : ℕ) where
  abbrev pub schema : Schema
  schema = schema_in (take size cells)

  abbrev pub paths : List (LocationPath ℕ)
  paths = result_or [] (read_bundle schema (take n bundle))

  -- the test of refusal 1 of both
  abbrev pub both_pass : Bool
  both_pass = passes_record cells size && passes_bundle_record schema bundle n

  -- what is answered by both records: 1 unless they pass, and then what comes next
  module _ {A : Type 0} (f : Schema → List (LocationPath ℕ) → Outcome A) where
    first : Bool → Outcome A
    first p = handed (cond p (some schema) none) (λ s. handed (bundle_held s (record_with bundle n)) (f s))

    second : Bool → Outcome A
    second q = handed (cond q (some paths) none) (f schema)

    called : handed (schema_held (record_with cells size)) (λ s. handed (bundle_held s (record_with bundle n)) (f s)) ≡ first (passes_record cells size)
    unfolding first schema_held passes_schema
    called = refl

    judged : first true ≡ second (passes_bundle_record schema bundle n)
    unfolding first second bundle_held passes_bundle
    judged = refl

    pub both-handed : handed (schema_held (record_with cells size)) (λ s. handed (bundle_held s (record_with bundle n)) (f s)) ≡ tested both_pass (f schema paths)
    unfolding first second
    both-handed = called ∙ by (passes_record cells size) (passes_bundle_record schema bundle n) judged
      where
        by : (p q : Bool) → first true ≡ second q → first p ≡ tested (p && q) (f schema paths)
        by false q e = refl
        by true true e = e
        by true false e = e

module _ (cells : List ℕ) (size : ℕ) (bundle : List ℕ) (n place : ℕ) (t : LentTable) (lent : List ℕ) (i k : ℕ) (r : Result Selected Refusal) (items counts : List ℕ) where
  abbrev pub Answer : Type 0
  Answer = AnsweredSelections (nodes_selected (record_with cells size) (record_with bundle n) place t lent i k) i k r items counts

  -- the outcome by the test of both
  by-test : nodes_selected (record_with cells size) (record_with bundle n) place t lent i k
      ≡ tested (both_pass cells size bundle n) (lent_selected (schema cells size bundle n) (paths cells size bundle n) place t lent i k)
  unfolding nodes_selected
  by-test = both-handed cells size bundle n (λ s ps. lent_selected s ps place t lent i k)

  pub not-records : both_pass cells size bundle n ≡ false → RefusedBy (refusal BadRecord 0) i k r items counts → Answer
  not-records e h = rw (by-test, e) (refused_as (refusal BadRecord 0) i k r items counts h)

  pub both-records : both_pass cells size bundle n ≡ true
      → AnsweredSelections (lent_selected (schema cells size bundle n) (paths cells size bundle n) place t lent i k) i k r items counts → Answer
  both-records e h = rw (by-test, e) h

-- ---- judged paths, or none
module _ (names : List (List ℕ)) (text : List ℕ) where
  pub paths-accepted : (c : CompiledPaths) → JudgedUnder names text (Ok c) → PathsUnder names text c
  paths-accepted c j = record { are = λ s n. ap (result_or []) (j.under s n).outcome; shaped = λ s n. (j.under s n).shaped }

  pub paths-refused : (f : Refusal) (c : CompiledPaths) → JudgedUnder names text (Err f) → paths_in c ≡ [] → Shaped c → PathsUnder names text c
  paths-refused f c j e h = record { are = λ s n. e ∙ ap (result_or []) (j.under s n).outcome; shaped = λ s n. h }

-- ---- the texts, compiled
module _ (text : List ℕ) (t : CompiledSchema) (made : CompiledOf text (schema_in text) t) (words : List ℕ) (are : WordsOf t.relations.«holds» words) where
  pub schema-words : HeldWords (types_of (schema_in text)) words
  schema-words = words-held (schema_in text) (schema_in-length text) t.relations.«holds» made.held words are

  pub some-schema : SomeSchema words
  some-schema = record { schema = schema_in text; held = schema-words }

  module _ (bundle : List ℕ) (c : CompiledPaths) (under : PathsUnder (names_at text t) bundle c) where
    pub paths-shaped : Shaped c
    paths-shaped = under.shaped (schema_in text) made.named

    pub texts-selected : (place : ℕ) (table : LentTable) (lent : List ℕ) (i k : ℕ) (r : Result Selected Refusal) (items counts : List ℕ)
        → ((s : Schema) → HeldWords (types_of s) words → AnsweredSelections (lent_selected s (paths_in c) place table lent i k) i k r items counts)
        → AnsweredSelections (lent_selected (schema_in text) (result_or [] (read_bundle (schema_in text) bundle)) place table lent i k) i k r items counts
    texts-selected place table lent i k r items counts h = rw (← (under.are (schema_in text) made.named)) (h (schema_in text) schema-words)
