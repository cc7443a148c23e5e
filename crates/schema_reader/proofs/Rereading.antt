-- Laws of refusal 1: a record passes if reading its text gives it again.
use mathlib.Core.Bool.{Bool, true, false, ◌&&◌}
use mathlib.Core.List.{List}
use mathlib.Core.Path.{◌≡◌, refl, sym, ap, ap₂, subst, ◌∙◌}
use Prim.Native.Nat.{ℕ, ◌≤◌, ◌<◌}
use native.Mathlib.Omega.{arith}
use borrow.Author.Tests.{le-leb, lt-leb}
use lib.Dec.{T, leb, leb→le}
use lib.ListN.{length, take}
use lib.Seq.{length-take-le}
use Rattle.schema.specs.Judging.{sized}
use Rattle.schema_reader.specs.Records.{ReadAs, passes_record}
use Rattle.schema_reader.specs.declared.SchemaRead.{SchemaRead}
use Rattle.schema_spec.specs.Reading.{read_schema}
use Rattle.schema_spec.specs.Records.{normal, record_by, schema_record, is_schema_record}
use Rattle.schema_spec.specs.Schemas.{Schema}
use Rattle.std.specs.Prelude.{Ok, Err}
use Rattle.text.specs.declared.refusals.Refusal.{Refusal}
use Rattle.text.specs.refusals.Refusals.{refusal_in, outcome_of}
use Rattle.text_laws.specs.Cells.{padded-length, padded-take}
use Rattle.text_laws.specs.Lists.{bytes-equal, bytes_same}
use Rattle.text_laws.specs.Tests.{passed, true_of, false_of, and_cases, and_intro, never}
use Rattle.text_spec.specs.Cells.{padded}
use Rattle.text_spec.specs.Limits.{max_schema_bytes}
use Rattle.text_spec.specs.Lists.{same_bytes}
use Rattle.text_spec.specs.Refusals.{Outcome, accepted, refused, is_accepted}

-- ---- the test
and-false : (a : Bool) {b : Bool} → b ≡ false → (a && b) ≡ false
and-false true e = e
and-false false e = refl

module _ (cells : List ℕ) (size : ℕ) where
  pub record-long : max_schema_bytes < size → passes_record cells size ≡ false
  record-long h = ap (λ (t : Bool). (t && same_bytes cells (padded max_schema_bytes (take size cells))) && is_schema_record (take size cells)) (lt-leb size max_schema_bytes h)

  module _ {r : SchemaRead} (R : ReadAs (take size cells) r) where
    -- a text that is turned back is no record
    pub record-refused : {f : Refusal} → r.judgement ≡ Err f → passes_record cells size ≡ false
    unfolding is_schema_record
    record-refused {f} e =
        and-false (leb size max_schema_bytes && same_bytes cells (padded max_schema_bytes (take size cells)))
        (ap (λ (t : Bool). t && same_bytes (normal (take size cells)) (take size cells)) (go (read_schema (take size cells)) (sym (ap outcome_of e) ∙ R.outcome)))
      where
        go : (o : Outcome Schema) → refused (refusal_in f) ≡ sized o → is_accepted o ≡ false
        go (accepted s) q = never (cc)
        go (refused g) q = refl

    module _ {n : ℕ} (e : r.judgement ≡ Ok n) where
      is-accepted : is_accepted (read_schema (take size cells)) ≡ true
      is-accepted = go (read_schema (take size cells)) (sym (ap outcome_of e) ∙ R.outcome)
        where
          go : (o : Outcome Schema) → accepted n ≡ sized o → is_accepted o ≡ true
          go (accepted s) q = refl
          go (refused f) q = never (cc)

      again : schema_record (take size cells) ≡ normal (take size cells)
      unfolding schema_record
      again = go (read_schema (take size cells)) is-accepted
        where
          go : (o : Outcome Schema) → is_accepted o ≡ true → record_by o (normal (take size cells)) ≡ normal (take size cells)
          go (accepted s) q = refl
          go (refused f) q = never (cc)

      bytes-again : r.schema.bytes ≡ padded max_schema_bytes (normal (take size cells))
      bytes-again = R.bytes ∙ ap (padded max_schema_bytes) again

      size-again : r.schema.len ≡ length (normal (take size cells))
      size-again = R.size ∙ ap length again

      -- a record that passes is its re-reading
      passes_same : T (passes_record cells size) → (r.schema.len ≡ size) × (r.schema.bytes ≡ cells)
      unfolding is_schema_record
      passes_same t =
          let b = and_cases (leb size max_schema_bytes && same_bytes cells (padded max_schema_bytes (take size cells))) (is_schema_record (take size cells)) t in
          let a = and_cases (leb size max_schema_bytes) (same_bytes cells (padded max_schema_bytes (take size cells))) b.0 in
          let c = and_cases (is_accepted (read_schema (take size cells))) (same_bytes (normal (take size cells)) (take size cells)) b.1 in
          let same_text : normal (take size cells) ≡ take size cells = bytes-equal (normal (take size cells)) (take size cells) c.1 in
          let same-cells : cells ≡ padded max_schema_bytes (take size cells) = bytes-equal cells (padded max_schema_bytes (take size cells)) a.1 in
          let low : size ≤ max_schema_bytes = leb→le size max_schema_bytes a.0 in
          let l = ap length same-cells ∙ padded-length max_schema_bytes (take size cells) in
          let n : length (take size cells) ≡ size = length-take-le size cells (omega arith) in
          (size-again ∙ ap length same_text ∙ n, bytes-again ∙ ap (padded max_schema_bytes) same_text ∙ sym same-cells)

      same-passes : size ≤ max_schema_bytes → r.schema.len ≡ size → r.schema.bytes ≡ cells → T (passes_record cells size)
      unfolding is_schema_record
      same-passes low l c =
          let same-cells : cells ≡ padded max_schema_bytes (normal (take size cells)) = sym c ∙ bytes-again in
          let n : size ≡ length (normal (take size cells)) = sym l ∙ size-again in
          let same_text : take size cells ≡ normal (take size cells) = ap₂ take n same-cells ∙ padded-take max_schema_bytes (normal (take size cells)) (omega arith) in
          and_intro (leb size max_schema_bytes && same_bytes cells (padded max_schema_bytes (take size cells))) (is_schema_record (take size cells))
          (and_intro (leb size max_schema_bytes) (same_bytes cells (padded max_schema_bytes (take size cells))) (passed (le-leb size max_schema_bytes low))
          (subst (λ (x : List ℕ). T (same_bytes cells x)) (same-cells ∙ ap (padded max_schema_bytes) (sym same_text)) (bytes_same cells)))
          (and_intro (is_accepted (read_schema (take size cells))) (same_bytes (normal (take size cells)) (take size cells)) (passed is-accepted)
          (subst (λ (x : List ℕ). T (same_bytes (normal (take size cells)) x)) (sym same_text) (bytes_same (normal (take size cells)))))

      pub record-size : (r.schema.len ≡ size → ⊥) → passes_record cells size ≡ false
      record-size h = false_of (passes_record cells size) (λ t. h (passes_same t).0)

      pub record-cells : size ≤ max_schema_bytes → r.schema.len ≡ size → {t : Bool} → t ≡ same_bytes r.schema.bytes cells → t ≡ passes_record cells size
      record-cells low l {t} q = q ∙ go (same_bytes r.schema.bytes cells) refl
        where
          go : (u : Bool) → same_bytes r.schema.bytes cells ≡ u → u ≡ passes_record cells size
          go true z = sym (true_of (passes_record cells size) (same-passes low l (bytes-equal r.schema.bytes cells (passed z))))
          go false z =
              sym (false_of (passes_record cells size) (λ p. let y = ap (λ (x : List ℕ). same_bytes x cells) (passes_same p).1 ∙ true_of (same_bytes cells cells) (bytes_same cells) in never (cc)))
