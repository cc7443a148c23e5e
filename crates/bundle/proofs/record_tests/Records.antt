-- Laws of the test of a bundle's record, part by part.
use Rattle.std.specs.Prelude.{Bool, true, ◌&&◌, List, ◌≡◌, refl, ℕ, ◌≤◌, leb, take, Result, Ok, Err}
use Rattle.std.specs.Result.{is_ok}
use Rattle.std.proofs.Common.{ap, ◌∙◌, leb→le}
use Rattle.bundle.specs.Judging.{outcome_of, JudgedAs}
use Rattle.compiled_paths.specs.declared.CompiledPaths.{CompiledPaths}
use Rattle.path_spec.specs.Reading.{is_bundle_record}
use Rattle.schema_spec.specs.Schemas.{Schema}
use Rattle.text.specs.declared.refusals.Refusal.{Refusal}
use Rattle.text_laws.specs.Tests.{passed, and_cases}
use Rattle.text_spec.specs.Cells.{padded}
use Rattle.text_spec.specs.Limits.{max_bundle_bytes}
use Rattle.text_spec.specs.Lists.{same_bytes}
use Rattle.text_spec.specs.Refusals.{is_accepted}

pub text-low : (cells : List ℕ) (size : ℕ) → (leb size max_bundle_bytes && same_bytes cells (padded max_bundle_bytes (take size cells))) ≡ true → size ≤ max_bundle_bytes
text-low cells size e = leb→le size max_bundle_bytes (and_cases (leb size max_bundle_bytes) _ (passed e)).0

pub text-judged : (s : Schema) (text : List ℕ) {r : Result CompiledPaths Refusal} → JudgedAs s text r → {b : Bool} → b ≡ is_ok r → b ≡ is_bundle_record s text
unfolding is_bundle_record
text-judged s text {r} J e = e ∙ go r ∙ ap is_accepted J.outcome
  where
    go : (x : Result CompiledPaths Refusal) → is_ok x ≡ is_accepted (outcome_of x)
    go (Ok c) = refl
    go (Err f) = refl
