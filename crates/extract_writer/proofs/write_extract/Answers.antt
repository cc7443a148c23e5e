-- `write_extract` meets its contract: the record, the table beside its text, and the bytes of its rows.
use mathlib.Core.Bool.{true}
use mathlib.Core.Path.{◌≡◌, sym, ap, ◌∙◌}
use Rattle.std.proofs.Common.{subst}
use lib.ListN.{length}
use Rattle.cells.specs.row_sets.Columns.{marks}
use Rattle.cells.specs.verdicts.Verdicts.{in_bytes}
use Rattle.compiled_schema.specs.records.Records.{record_with, passes-schema}
use Rattle.extract_writer.specs.Outcomes.{no_record, no_table, table-equal, table-room, table-columns, table-written}
use Rattle.extract_writer.specs.answers.Answers.{same_answer}
use Rattle.extract_writer.specs.rows.Rows.{ExtractColumns}
use Rattle.extract_writer.specs.writing.Extract.{extract_in}
use Rattle.library_spec.specs.Records.{LentTable, passes_schema}
use Rattle.schema_reader.specs.Sizes.{record-low}
use Rattle.schema_spec.specs.Records.{schema_in}
use Rattle.schema_spec.specs.Schemas.{Schema}
use Rattle.table_spec.specs.Columns.{Columns}
use Rattle.tables.specs.Handed.{read_table, is_beside}
use Rattle.text_spec.specs.Records.{TextRecord, text_in}
use Rattle.extract_writer.proofs.write_extract.Goals.{Start, Else-not-is_schema_record, Else-not-is_table_beside}
use Rattle.extract_writer.proofs.write_extract.Goals as goal

abbrev held : Start → TextRecord
held c = record_with c.args.schema.bytes c.args.schema.len

abbrev schema : Start → Schema
schema c = schema_in (text_in (held c))

abbrev table : Start → LentTable
table c = read_table c.args.table.now c.args.count

accepted : (c : Else-not-is_schema_record) → passes_schema (record_with c.args.schema.bytes c.args.schema.len) ≡ true
accepted c = sym (passes-schema c.args.schema.bytes c.args.schema.len) ∙ sym c.is_schema_record.ensures ∙ c.if-not-is_schema_record.false

beside : (c : Else-not-is_table_beside)
    → is_beside (schema_in (text_in (record_with c.args.schema.bytes c.args.schema.len))) c.args.lent.now (read_table c.args.table.now c.args.count) ≡ true
beside c = sym (c.is_table_beside.ensures _ c.schema_words-words.ensures) ∙ c.if-not-is_table_beside.false

pub returns-then-not-is_schema_record : goal.returns-then-not-is_schema_record
returns-then-not-is_schema_record c =
    let s = (goal.at.returns-then-not-is_schema_record c).Start in
    let passes = sym (passes-schema c.args.schema.bytes c.args.schema.len) ∙ sym c.is_schema_record.ensures ∙ c.if-not-is_schema_record.true in
    same_answer _ _ _ (no_record (held s) (table s) c.args.lent.now (length c.args.out.now) passes) c.refuse.ensures

pub schema_words-words-requires : goal.schema_words-words-requires
schema_words-words-requires c =
    let schema = c.args.schema in
    record-low schema.bytes schema.len (sym c.is_schema_record.ensures ∙ c.if-not-is_schema_record.false)

pub returns-then-not-is_table_beside : goal.returns-then-not-is_table_beside
returns-then-not-is_table_beside c =
    let s = (goal.at.returns-then-not-is_table_beside c).Start in
    let none = sym (c.is_table_beside.ensures (schema s) c.schema_words-words.ensures) ∙ c.if-not-is_table_beside.true in
    same_answer _ _ _ (no_table (held s) (table s) c.args.lent.now (length c.args.out.now) (accepted (goal.at.returns-then-not-is_table_beside c).Else-not-is_schema_record) none) c.refuse-then-not-is_table_beside.ensures

pub first-requires : goal.first-requires
first-requires c =
    let s = (goal.at.first-requires c).Start in
    let held = beside (goal.at.first-requires c).Else-not-is_table_beside in
    record { equal = table-equal (schema s) c.args.lent.now (table s) held; room = table-room (schema s) c.args.lent.now (table s) held }

pub write_in_room-requires : goal.write_in_room-requires
write_in_room-requires c =
    let s = (goal.at.write_in_room-requires c).Start in
    subst (λ (x : Columns). ExtractColumns c.args.lent.now x (length x.numbers)) (sym c.first.ensures)
    (table-columns (schema s) c.args.lent.now (table s) (beside (goal.at.write_in_room-requires c).Else-not-is_table_beside))

pub returns : goal.returns
returns c =
    let s = (goal.at.returns c).Start in
    let size = length c.args.out.now in
    same_answer _ _ _
    (ap (λ (x : Columns). in_bytes size (extract_in c.args.lent.now x (marks (length x.numbers) (λ r. true)))) c.first.ensures
    ∙ table-written (held s) (table s) c.args.lent.now size (accepted (goal.at.returns c).Else-not-is_schema_record) (beside (goal.at.returns c).Else-not-is_table_beside))
    c.write_in_room.ensures
