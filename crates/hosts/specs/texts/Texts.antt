-- What judging a schema and a bundle in turn answers, in the definition's terms, and the place in the bundle that a call asks for.
use Rattle.std.specs.Prelude.{Bool, List, ◌≡◌, ℕ, Ok, Err, Result, leb, length}
use Rattle.std.proofs.Common.{sym, ap, ◌∙◌}
use Rattle.bundle.specs.Judging.{JudgedUnder, outcome_of}
use Rattle.compiled_paths.specs.Paths.{paths_in, Shaped}
use Rattle.compiled_paths.specs.declared.CompiledPaths.{CompiledPaths}
use Rattle.compiled_schema.specs.Compiled.{CompiledOf, JudgedAs}
use Rattle.compiled_schema.specs.Places.{names_at}
use Rattle.compiled_schema.specs.declared.CompiledSchema.{CompiledSchema}
use Rattle.hosts.specs.declared.texts.Texts.{Texts}
use Rattle.library_spec.specs.Hosts.{bundle_paths, in_range}
use Rattle.path_spec.specs.Reading.{read_bundle}
use Rattle.schema_spec.specs.Reading.{read_schema}
use Rattle.schema_spec.specs.Records.{schema_in}
use Rattle.schema_spec.specs.Schemas.{Schema}
use Rattle.text.specs.declared.refusals.Refusal.{Refusal}
use Rattle.text.specs.refusals.Refusals.{refusal_in}
use Rattle.text_spec.specs.Limits.{max_paths}
use Rattle.text_spec.specs.Refusals.{Outcome, accepted, refused, and_then}

-- ---- definitions
-- both texts accepted and compiled
pub record TextsTaken (schema bundle : List ℕ) (t : Texts) : Type 0 where
  pub read : read_schema schema ≡ accepted (schema_in schema)
  pub compiled : CompiledOf schema (schema_in schema) t.schema
  pub paths-are : bundle_paths schema bundle ≡ accepted (paths_in t.paths)
  pub counted : t.paths.count ≡ length (paths_in t.paths)
  pub shaped : Shaped t.paths

-- the two texts in turn: compiled, or the refusal that comes first
abbrev pub JudgedBy : List ℕ → List ℕ → Result Texts Refusal → Type 0
JudgedBy schema bundle (Ok t) = TextsTaken schema bundle t
JudgedBy schema bundle (Err f) = bundle_paths schema bundle ≡ refused (refusal_in f)

pub record TextsJudged (schema bundle : List ℕ) (r : Result Texts Refusal) : Type 0 where
  pub says : JudgedBy schema bundle r

-- whether a place is in range: one that the bundle has or 0; of texts that are refused, one that some bundle has
abbrev pub range_of : ℕ → Result Texts Refusal → Bool
range_of place (Ok t) = leb place t.paths.count
range_of place (Err f) = leb place max_paths

-- ---- laws
-- the test of the place is the definition's
pub range-is : (schema bundle : List ℕ) (place : ℕ) (r : Result Texts Refusal) → TextsJudged schema bundle r → range_of place r ≡ in_range place (bundle_paths schema bundle)
range-is schema bundle place (Ok t) J = ap (leb place) J.says.counted ∙ sym (ap (in_range place) J.says.paths-are)
range-is schema bundle place (Err f) J = sym (ap (in_range place) J.says)

-- a schema that is refused
pub schema-refused : (schema bundle : List ℕ) (f : Refusal) → JudgedAs schema (Err f) → TextsJudged schema bundle (Err f)
unfolding bundle_paths
schema-refused schema bundle f J = record { says = ap (λ (o : Outcome Schema). and_then o (λ s. read_bundle s bundle)) J.says }

-- a bundle under a schema that is accepted
module _ (schema bundle : List ℕ) (t : CompiledSchema) (J : JudgedAs schema (Ok t)) where
  bundle-as : (r : Result CompiledPaths Refusal) → JudgedUnder (names_at schema t) bundle r → bundle_paths schema bundle ≡ outcome_of r
  unfolding bundle_paths
  bundle-as r K =
      ap (λ (o : Outcome Schema). and_then o (λ s. read_bundle s bundle)) J.says.0 ∙ sym (K.under (schema_in schema) J.says.1.named).outcome

  pub bundle-refused : (f : Refusal) → JudgedUnder (names_at schema t) bundle (Err f) → TextsJudged schema bundle (Err f)
  bundle-refused f K = record { says = bundle-as (Err f) K }

  pub bundle-accepted : (c : CompiledPaths) → JudgedUnder (names_at schema t) bundle (Ok c) → TextsJudged schema bundle (Ok (record { schema = t; paths = c }))
  bundle-accepted c K =
      let judged = K.under (schema_in schema) J.says.1.named in
      record { says = record { read = J.says.0; compiled = J.says.1; paths-are = bundle-as (Ok c) K; counted = judged.counted; shaped = judged.shaped } }
