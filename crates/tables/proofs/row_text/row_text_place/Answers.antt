-- `row_text_place` meets its contract: the record, the table, the row.
use Rattle.std.proofs.Common.{sym, ap, ◌∙◌, Err}
use Rattle.compiled_schema.specs.records.Records.{passes-schema}
use Rattle.schema_reader.specs.Sizes.{record-low}
use Rattle.tables.specs.row_text.Answers.{text_outcome, no_record, no_table, row-found, beside-lent}
use Rattle.tables.proofs.row_text.row_text_place.Goals.{then-not-is_schema_record-via-then-not-is_schema_record, then-not-is_schema_record-via-else-not-is_schema_record+then-not-is_table_beside}
use Rattle.tables.proofs.row_text.row_text_place.Goals as goal

pub returns-then-not-is_schema_record : goal.returns-then-not-is_schema_record
returns-then-not-is_schema_record c =
    ap text_outcome (ap Err c.of.ensures) ∙ elim c.then-not-is_schema_record.branch [
      | then-not-is_schema_record-via-then-not-is_schema_record w ↦ no_record _ _ _ _ (sym (passes-schema _ _) ∙ sym c.is_schema_record.ensures ∙ w.if-not-is_schema_record.true)
      | then-not-is_schema_record-via-else-not-is_schema_record+then-not-is_table_beside w ↦
          no_table _ _ _ _ (sym (passes-schema _ _) ∙ sym c.is_schema_record.ensures ∙ w.if-not-is_schema_record.false)
          (sym (w.is_table_beside.ensures _ w.schema_words.ensures) ∙ w.if-not-is_table_beside.true)
    ]

pub schema_words-requires : goal.schema_words-requires
schema_words-requires c =
    let schema = c.args.schema in
    record-low schema.bytes schema.len (sym c.is_schema_record.ensures ∙ c.if-not-is_schema_record.false)

pub text_of-requires : goal.text_of-requires
text_of-requires c = beside-lent _ _ _ (sym (c.is_table_beside.ensures _ c.schema_words.ensures) ∙ c.if-not-is_table_beside.false)

pub returns : goal.returns
returns c =
    let passes = sym (passes-schema _ _) ∙ sym c.is_schema_record.ensures ∙ c.if-not-is_schema_record.false in
    ap text_outcome c.text_of.ensures ∙ row-found _ _ _ _ passes (sym (c.is_table_beside.ensures _ c.schema_words.ensures) ∙ c.if-not-is_table_beside.false)
