-- `needed_names` meets its contract: the records, and then what their texts need.
use mathlib.Core.Path.{◌≡◌, sym, ap, ◌∙◌}
use Rattle.std.specs.Prelude.{ℕ, Err}
use Prim.Native.Nat.{◌≤◌}
use native.Mathlib.Omega.{arith}
use borrow.Author.Rules.{rules}
use lib.ListN.{length}
use lib.Seq.{length-take-le}
use Rattle.bundle.specs.records.Records.{schema-size, bundle-size}
use Rattle.needed_names.specs.records.Records.{not-records, both-records}
use Rattle.text.specs.declared.refusals.Refusal.{Refusal}
use Rattle.text.specs.refusals.Refusals.{outcome_of}
use Rattle.text_spec.specs.Limits.{max_schema_bytes, max_bundle_bytes}
use Rattle.needed_names.proofs.records.needed_names.Goals.{Else-not-is_bundle_record}
use Rattle.needed_names.proofs.records.needed_names.Goals as goal

-- both records pass their test, so that their texts are not too long
schema-inside : (c : Else-not-is_bundle_record) → c.args.schema.len ≤ length c.args.schema.bytes
schema-inside c =
    let at = c.args in
    let room : length at.schema.bytes ≡ max_schema_bytes = search rules in
    omega (arith, schema-size at.schema.bytes at.schema.len at.bundle.bytes at.bundle.len (sym c.is_bundle_record.ensures ∙ c.if-not-is_bundle_record.false))

bundle-inside : (c : Else-not-is_bundle_record) → c.args.bundle.len ≤ length c.args.bundle.bytes
bundle-inside c =
    let at = c.args in
    let room : length at.bundle.bytes ≡ max_bundle_bytes = search rules in
    omega (arith, bundle-size at.schema.bytes at.schema.len at.bundle.bytes at.bundle.len (sym c.is_bundle_record.ensures ∙ c.if-not-is_bundle_record.false))

pub returns-then-not-is_bundle_record : goal.returns-then-not-is_bundle_record
returns-then-not-is_bundle_record c =
    let at = c.args in
    ap (λ (f : Refusal). outcome_of {A = ℕ} (Err f)) c.of.ensures ∙ not-records at.schema.bytes at.schema.len at.bundle.bytes at.bundle.len (sym c.is_bundle_record.ensures ∙ c.if-not-is_bundle_record.true)

pub slice_bounds-needed_by_texts-end : goal.slice_bounds-needed_by_texts-end
slice_bounds-needed_by_texts-end c = sym (length-take-le _ _ (schema-inside (goal.at.slice_bounds-needed_by_texts-end c).Else-not-is_bundle_record))

pub slice_bounds-needed_by_texts-end-2 : goal.slice_bounds-needed_by_texts-end-2
slice_bounds-needed_by_texts-end-2 c = sym (length-take-le _ _ (bundle-inside (goal.at.slice_bounds-needed_by_texts-end-2 c).Else-not-is_bundle_record))

pub returns : goal.returns
returns c =
    let at = c.args in
    both-records at.schema.bytes at.schema.len at.bundle.bytes at.bundle.len (sym c.is_bundle_record.ensures ∙ c.if-not-is_bundle_record.false) _ c.needed_by_texts.ensures
