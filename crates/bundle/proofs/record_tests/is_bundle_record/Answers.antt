-- `is_bundle_record` meets its contract: each text lies within its cells.
use Rattle.std.specs.Prelude.{true, false, ◌≡◌}
use Rattle.std.proofs.Common.{sym, ◌∙◌}
use Rattle.bundle.proofs.record_tests.Records.{text-low}
use Rattle.schema_reader.specs.Sizes.{record-low}
use Rattle.text_laws.specs.Tests.{never}
use Rattle.bundle.proofs.record_tests.is_bundle_record.Goals as goal
use Rattle.bundle.proofs.record_tests.is_bundle_record.Goals.{then-is_schema_record, else-is_schema_record}

pub accepts_text-requires : goal.accepts_text-requires
accepts_text-requires c =
    elim c.if-is_schema_record.branch [
      | then-is_schema_record w ↦ (
        record-low c.args.schema.bytes c.args.schema.len (sym c.is_schema_record.ensures ∙ w.if-is_schema_record.true),
        text-low c.args.bundle.bytes c.args.bundle.len (sym w.holds_text.ensures ∙ sym w.value-is ∙ c.if-holds_text.true),
      )
      | else-is_schema_record w ↦ let z : false ≡ true = sym w.if-is_schema_record.false ∙ sym w.value-is ∙ c.if-holds_text.true in never (cc)
    ]
