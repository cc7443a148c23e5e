-- Refusal 1 on records: they hold something exactly if some accepted text gives them, and then what that text gives.
use mathlib.Core.List.{List, []}
use Rattle.std.proofs.Math.Option.{none, some}
use Rattle.std.specs.Prelude.{◌≡◌, ℕ, ◌≤◌, leb}
use Rattle.std.proofs.Math.Path.{refl, sym, ap, subst}
use Rattle.std.proofs.Common.{◌∙◌, arith, leb→le, le→leb, length-take}
use Rattle.std.proofs.Math.Dec.{T}
use Rattle.std.proofs.Math.ListN.{length}
use Rattle.library_spec.specs.Conditions.{SchemaTaken, BundleTaken, SchemaRecord, of-schema, BundleRecord, of-bundle}
use Rattle.library_spec.specs.Records.{passes_schema, passes_bundle, schema_held, bundle_held}
use Rattle.path_laws.specs.Reading.{bundle-read, bundle-read-once}
use Rattle.path_spec.specs.Conditions.{BundleApplies, BundleGives}
use Rattle.path_spec.specs.Paths.{LocationPath}
use Rattle.path_spec.specs.Reading.{bundle_refusals, read_bundle, is_bundle_record}
use Rattle.projection_laws.specs.Handed.{chosen-if}
use Rattle.schema_laws.specs.Accepted.{accepted-spelt}
use Rattle.schema_laws.specs.Records.{normal-accepted, producible-record, record-accepted}
use Rattle.schema_laws.specs.reading.Reading.{schema-read, schema-read-once}
use Rattle.schema_spec.specs.Conditions.{SchemaApplies, SchemaGives}
use Rattle.schema_spec.specs.Reading.{read_schema}
use Rattle.schema_spec.specs.Records.{normal, schema_in, producible, is_schema_record}
use Rattle.schema_spec.specs.Schemas.{Schema}
use Rattle.text_laws.specs.Cells.{padded-length, padded-take}
use Rattle.text_laws.specs.Lists.{append-empty, bytes-equal, bytes_same}
use Rattle.text_laws.specs.Refusals.{judged-accepted}
use Rattle.text_laws.specs.Tests.{true_of, and_intro, and_cases, cond_yes}
use Rattle.text_laws.specs.Texts.{length-within}
use Rattle.text_spec.specs.Cells.{padded}
use Rattle.text_spec.specs.Limits.{max_schema_bytes, max_bundle_bytes}
use Rattle.text_spec.specs.Lists.{same_bytes}
use Rattle.text_spec.specs.Records.{TextRecord, text_in, record_of, is_record}
use Rattle.text_spec.specs.Refusals.{Outcome, accepted, refused, is_accepted, result_or, Judged}
use Rattle.text_spec.specs.Texts.{length_refusals}

-- ---- a record is its text in cells
record-text : (limit : ℕ) (text : List ℕ) → length text ≤ limit → text_in (record_of limit text) ≡ text
record-text limit text h = padded-take limit text h

text-record : (limit : ℕ) (text : List ℕ) → length text ≤ limit → T (is_record limit (record_of limit text))
text-record limit text h =
    and_intro (leb (length text) limit) _ (le→leb (length text) limit h)
    (subst (λ (w : List ℕ). T (same_bytes (padded limit text) (padded limit w))) (sym (record-text limit text h)) (bytes_same (padded limit text)))

record_is : (limit : ℕ) (r : TextRecord) → T (is_record limit r) → r ≡ record_of limit (text_in r)
record_is limit r t =
    let c = and_cases (leb r.size limit) (same_bytes r.cells (padded limit (text_in r))) t in
    let h : r.size ≤ limit = leb→le r.size limit c.0 in
    let e : r.cells ≡ padded limit (text_in r) = bytes-equal r.cells (padded limit (text_in r)) c.1 in
    let l : length r.cells ≡ limit = ap length e ∙ padded-length limit (text_in r) in
    let n : r.size ≡ length (text_in r) = sym (length-take r.size r.cells ∙ omega (arith, l, h)) in
    ap (λ (w : List ℕ). record { cells = w; size = r.size }) e ∙ ap (λ (k : ℕ). record { cells = padded limit (text_in r); size = k }) n

-- ---- schemas
record-length : (w : List ℕ) → T (is_schema_record w) → length w ≤ max_schema_bytes
record-length w t = length-within max_schema_bytes w (accepted-spelt w (schema_in w) (record-accepted w t)).right-length

schema-taken : (w : List ℕ) (s : Schema) → read_schema w ≡ accepted s → SchemaTaken w s
schema-taken w s e = subst (Judged (SchemaApplies w) (SchemaGives w)) e (schema-read w)

pub schema-handed : (r : TextRecord) {s : Schema} → schema_held r ≡ some s → SchemaRecord r s
unfolding schema_held passes_schema is_schema_record
schema-handed r {s} e =
    let h = chosen-if (passes_schema r) (some (schema_in (text_in r))) e in
    let c = and_cases (is_record max_schema_bytes r) (is_schema_record (text_in r)) h.0 in
    let held : schema_in (text_in r) ≡ s = cc in
    let own : normal (text_in r) ≡ text_in r = bytes-equal (normal (text_in r)) (text_in r) (and_cases (is_accepted (read_schema (text_in r))) (same_bytes (normal (text_in r)) (text_in r)) c.1).1 in
    subst (λ (q : TextRecord). SchemaRecord q s) (ap (record_of max_schema_bytes) own ∙ sym (record_is max_schema_bytes r c.0))
    (of-schema (text_in r) (schema-taken (text_in r) s (record-accepted (text_in r) c.1 ∙ ap (λ (x : Schema). accepted x) held)))

pub handed-schema : {r : TextRecord} {s : Schema} → SchemaRecord r s → schema_held r ≡ some s
unfolding schema_held passes_schema schema_in
handed-schema (of-schema {s = s} text st) =
    let e : read_schema text ≡ accepted s = sym (schema-read-once text st) in
    let t = producible-record (producible text e) in
    let h = record-length (normal text) t in
    let own = record-text max_schema_bytes (normal text) h in
    cond_yes (some (schema_in (text_in (record_of max_schema_bytes (normal text))))) none
    (true_of (passes_schema (record_of max_schema_bytes (normal text)))
    (and_intro (is_record max_schema_bytes (record_of max_schema_bytes (normal text))) (is_schema_record (text_in (record_of max_schema_bytes (normal text)))) (text-record max_schema_bytes (normal text) h)
    (subst (λ (v : List ℕ). T (is_schema_record v)) (sym own) t)))
    ∙ ap (λ (v : List ℕ). some (schema_in v)) own ∙ ap (λ (o : Outcome Schema). some (result_or [] o)) (normal-accepted text s e)

-- ---- bundles, under a schema
module _ (s : Schema) where
  bundle-accepted : (w : List ℕ) → T (is_bundle_record s w) → read_bundle s w ≡ accepted (result_or [] (read_bundle s w))
  unfolding is_bundle_record
  bundle-accepted w t = pick (read_bundle s w) t
    where
      pick : (o : Outcome (List (LocationPath ℕ))) → T (is_accepted o) → o ≡ accepted (result_or [] o)
      pick (accepted ps) u = refl
      pick (refused f) u = absurd u

  bundle-length : (w : List ℕ) (ps : List (LocationPath ℕ)) → read_bundle s w ≡ accepted ps → length w ≤ max_bundle_bytes
  unfolding read_bundle bundle_refusals
  bundle-length w ps e = length-within max_bundle_bytes w (append-empty (length_refusals max_bundle_bytes w) _ (judged-accepted (bundle_refusals s w) _ ps e).0).0

  bundle-taken : (w : List ℕ) (ps : List (LocationPath ℕ)) → read_bundle s w ≡ accepted ps → BundleTaken s w ps
  bundle-taken w ps e = subst (Judged (BundleApplies s w) (BundleGives s w)) e (bundle-read s w)

  pub bundle-handed : (r : TextRecord) {ps : List (LocationPath ℕ)} → bundle_held s r ≡ some ps → BundleRecord s r ps
  unfolding bundle_held passes_bundle
  bundle-handed r {ps} e =
      let h = chosen-if (passes_bundle s r) (some (result_or [] (read_bundle s (text_in r)))) e in
      let c = and_cases (is_record max_bundle_bytes r) (is_bundle_record s (text_in r)) h.0 in
      let held : result_or [] (read_bundle s (text_in r)) ≡ ps = cc in
      subst (λ (q : TextRecord). BundleRecord s q ps) (sym (record_is max_bundle_bytes r c.0))
      (of-bundle (text_in r) (bundle-taken (text_in r) ps (bundle-accepted (text_in r) c.1 ∙ ap (λ (x : List (LocationPath ℕ)). accepted x) held)))

  pub handed-bundle : {r : TextRecord} {ps : List (LocationPath ℕ)} → BundleRecord s r ps → bundle_held s r ≡ some ps
  unfolding bundle_held passes_bundle is_bundle_record
  handed-bundle (of-bundle {ps = ps} w j) =
      let e : read_bundle s w ≡ accepted ps = sym (bundle-read-once s w j) in
      let h : length w ≤ max_bundle_bytes = bundle-length w ps e in
      let own = record-text max_bundle_bytes w h in
      cond_yes (some (result_or [] (read_bundle s (text_in (record_of max_bundle_bytes w))))) none
      (true_of (passes_bundle s (record_of max_bundle_bytes w))
      (and_intro (is_record max_bundle_bytes (record_of max_bundle_bytes w)) (is_bundle_record s (text_in (record_of max_bundle_bytes w))) (text-record max_bundle_bytes w h)
      (subst (λ (v : List ℕ). T (is_accepted (read_bundle s v))) (sym own) (subst (λ (o : Outcome (List (LocationPath ℕ))). T (is_accepted o)) (sym e) tt))))
      ∙ ap (λ (v : List ℕ). some (result_or [] (read_bundle s v))) own ∙ ap (λ (o : Outcome (List (LocationPath ℕ))). some (result_or [] o)) e
