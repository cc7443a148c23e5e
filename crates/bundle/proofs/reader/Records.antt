-- Laws of the record that is handed back.
use mathlib.Core.List.{List, [], ◌++◌}
use Rattle.std.specs.Prelude.{Bool, true, false, ◌||◌, ◌≡◌, refl, ℕ, ◌≤◌, T, ltb, length, take, drop, replicate, Result, Ok, Err}
use Rattle.std.proofs.Common.{sym, ap, subst, ◌∙◌, ltb-false}
use Rattle.bundle.specs.Judging.{sized}
use Rattle.bundle.specs.declared.reader.Bundle.{Bundle}
use Rattle.bundle.specs.reader.Records.{empty_bundle, Recorded, read_under, ReadAs}
use Rattle.path_spec.specs.Machine.{parse}
use Rattle.path_spec.specs.Paths.{LocationPath}
use Rattle.path_spec.specs.Reading.{parsed_refusals, parsed_paths, bundle_refusals, read_bundle}
use Rattle.schema_reader.specs.Records.{passes_record}
use Rattle.schema_spec.specs.Records.{schema_in, record_by}
use Rattle.schema_spec.specs.Schemas.{Schema}
use Rattle.text.specs.declared.refusals.Refusal.{Refusal}
use Rattle.text.specs.refusals.Refusals.{outcome_of}
use Rattle.text_laws.specs.Cells.{drop-replicate, padded-zeros, padded-content}
use Rattle.text_laws.specs.Lists.{append-empty}
use Rattle.text_laws.specs.Refusals.{judged-accepted, given-free}
use Rattle.text_laws.specs.Tests.{passed, or_right, never}
use Rattle.text_spec.specs.Calls.{tested}
use Rattle.text_spec.specs.Cells.{padded}
use Rattle.text_spec.specs.Limits.{max_bundle_bytes}
use Rattle.text_spec.specs.Lists.{is_empty}
use Rattle.text_spec.specs.Refusals.{Outcome, accepted, refused, is_accepted, at, bad_length}
use Rattle.text_spec.specs.Texts.{length_refusals, byte_refusals}

-- ---- the text in its cells
pub copied : (text first : List ℕ) → first ≡ text → length text ≤ max_bundle_bytes → first ++ drop (length text) (replicate max_bundle_bytes 0) ≡ padded max_bundle_bytes text
copied text first e h =
    ap (λ (l : List ℕ). l ++ drop (length text) (replicate max_bundle_bytes 0)) e
    ∙ ap (λ (l : List ℕ). text ++ l) (drop-replicate (length text) max_bundle_bytes 0) ∙ sym (padded-content max_bundle_bytes text h)

-- ---- an accepted text is not too long
accepted-short : (s : Schema) (text : List ℕ) → T (is_accepted (read_bundle s text)) → length text ≤ max_bundle_bytes
unfolding read_bundle bundle_refusals
accepted-short s text t = go (read_bundle s text) refl t
  where
    small : (b : Bool) → ltb max_bundle_bytes (length text) ≡ b → length_refusals max_bundle_bytes text ≡ [] → length text ≤ max_bundle_bytes
    small true e f =
        absurd (given-free (is_empty text || ltb max_bundle_bytes (length text)) (at bad_length 0) f (or_right (is_empty text) (ltb max_bundle_bytes (length text)) (passed e)))
    small false e f = ltb-false max_bundle_bytes (length text) e

    go : (o : Outcome (List (LocationPath ℕ))) → read_bundle s text ≡ o → T (is_accepted o) → length text ≤ max_bundle_bytes
    go (accepted ps) e t =
        small (ltb max_bundle_bytes (length text)) refl
        (append-empty (length_refusals max_bundle_bytes text) (byte_refusals text ++ parsed_refusals s (parse text)) (judged-accepted _ (parsed_paths s (parse text)) ps e).0).0
    go (refused f) e t = absurd t

-- ---- what is handed back
under-short : (s : Schema) (text : List ℕ) (b : Bool) {ps : List (LocationPath ℕ)} → tested b (read_bundle s text) ≡ accepted ps → length text ≤ max_bundle_bytes
under-short s text true e = accepted-short s text (subst (λ (o : Outcome (List (LocationPath ℕ))). T (is_accepted o)) (sym e) tt)
under-short s text false e = never (cc)

module _ (cells : List ℕ) (size : ℕ) (text : List ℕ) {j : Result ℕ Refusal} (d : outcome_of j ≡ sized (read_under cells size text)) where
  pub read-ok : {n : ℕ} → j ≡ Ok n → {b : Bundle} → Recorded text b → ReadAs cells size text (record { judgement = j; bundle = b })
  read-ok {n} u {b} R = go (read_under cells size text) refl (sym (ap outcome_of u) ∙ d)
    where
      go : (o : Outcome (List (LocationPath ℕ))) → read_under cells size text ≡ o → accepted n ≡ sized o → ReadAs cells size text (record { judgement = j; bundle = b })
      go (accepted ps) y q =
          let h = under-short (schema_in (take size cells)) text (passes_record cells size) y in
          record {
            outcome = d;
            bytes = R.bytes h ∙ ap (λ (o : Outcome (List (LocationPath ℕ))). padded max_bundle_bytes (record_by o text)) (sym y);
            size = R.size h ∙ ap (λ (o : Outcome (List (LocationPath ℕ))). length (record_by o text)) (sym y);
          }
      go (refused f) y q = never (cc)

  pub read-err : {f : Refusal} → j ≡ Err f → {b : Bundle} → b ≡ empty_bundle → ReadAs cells size text (record { judgement = j; bundle = b })
  read-err {f} u {b} e = go (read_under cells size text) refl (sym (ap outcome_of u) ∙ d)
    where
      go : (o : Outcome (List (LocationPath ℕ))) → read_under cells size text ≡ o → outcome_of (Err f) ≡ sized o → ReadAs cells size text (record { judgement = j; bundle = b })
      go (accepted ps) y q = never (cc)
      go (refused g) y q =
          record {
            outcome = d;
            bytes = ap (λ (x : Bundle). x.bytes) e ∙ sym (padded-zeros max_bundle_bytes) ∙ ap (λ (o : Outcome (List (LocationPath ℕ))). padded max_bundle_bytes (record_by o text)) (sym y);
            size = ap (λ (x : Bundle). x.len) e ∙ ap (λ (o : Outcome (List (LocationPath ℕ))). length (record_by o text)) (sym y);
          }
