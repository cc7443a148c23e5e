-- The names under which a bundle text is judged are those of the schema in a text.
use mathlib.Core.List.{List, [], map}
use Rattle.std.specs.Prelude.{◌≡◌, refl, ℕ, length, take, Result, Ok, Err}
use Rattle.std.specs.Result.{result_unwrap_or}
use Rattle.std.proofs.Common.{sym, ap, ◌∙◌}
use Rattle.schema.specs.Judging.{sized, JudgedInto}
use Rattle.schema_spec.specs.Reading.{read_schema}
use Rattle.schema_spec.specs.Records.{schema_in}
use Rattle.schema_spec.specs.Schemas.{Schema}
use Rattle.text.specs.declared.refusals.Refusal.{Refusal}
use Rattle.text.specs.refusals.Refusals.{outcome_of}
use Rattle.text_laws.specs.Tests.{never}
use Rattle.text_spec.specs.Refusals.{Outcome, accepted, refused, result_or}
use Rattle.text_spec.specs.Scans.{name_at}

module _ {text names uses : List ℕ} {r : Result ℕ Refusal} (J : JudgedInto text names uses r) where
  pub under-named : {n : ℕ} → n ≡ result_unwrap_or r 0 → map (name_at text) (take n names) ≡ map (λ e. e.name) (schema_in text)
  unfolding schema_in
  under-named {n} e = go r (read_schema text) refl J.outcome e
    where
      go : (x : Result ℕ Refusal) (o : Outcome Schema) → read_schema text ≡ o → outcome_of x ≡ sized o → n ≡ result_unwrap_or x 0 → map (name_at text) (take n names) ≡ map (λ e. e.name) (result_or [] (read_schema text))
      go (Ok k) (accepted s) y d e =
          let z : n ≡ length s = cc in
          ap (λ (j : ℕ). map (name_at text) (take j names)) z ∙ (J.located s y).named ∙ ap (λ (o : Outcome Schema). map (λ x. x.name) (result_or [] o)) (sym y)
      go (Ok k) (refused f) y d e = never (cc)
      go (Err f) (accepted s) y d e = never (cc)
      go (Err f) (refused g) y d e = ap (λ (j : ℕ). map (name_at text) (take j names)) e ∙ ap (λ (o : Outcome Schema). map (λ x. x.name) (result_or [] o)) (sym y)
