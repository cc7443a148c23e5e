-- `read_extract` meets its contract: the record, the columns, the extract.
use mathlib.Core.Bool.{Bool}
use mathlib.Core.Path.{◌≡◌, refl, sym, ◌∙◌}
use Rattle.cells.specs.columns.ColumnLaws.{equal-columns}
use Rattle.cells.specs.columns.Lent.{lent_columns}
use Rattle.compiled_schema.specs.records.Records.{record_with, passes-schema}
use Rattle.extract_reader.specs.records.Calls.{call-no-record, call-no-columns, call-read}
use Rattle.library_spec.specs.Records.{passes_schema}
use Rattle.schema.specs.declared.Schema.{Schema}
use Rattle.schema_reader.specs.Records.{passes_record}
use Rattle.schema_reader.specs.Sizes.{record-low}
use Rattle.text_laws.specs.Tests.{passed}
use Rattle.extract_reader.proofs.records.read_extract.Goals.{else-is_schema_record-via-then-is_schema_record+else-are_equal, else-is_schema_record-via-else-is_schema_record}
use Rattle.extract_reader.proofs.records.read_extract.Goals as goal

-- the record's test is the library's
tested : (s : Schema) {b t : Bool} → b ≡ passes_record s.bytes s.len → b ≡ t → passes_schema (record_with s.bytes s.len) ≡ t
tested s e f = sym (passes-schema s.bytes s.len) ∙ sym e ∙ f

pub schema_words-words-requires : goal.schema_words-words-requires
schema_words-words-requires c =
    record-low c.args.schema.bytes c.args.schema.len (sym c.is_schema_record.ensures ∙ c.if-is_schema_record.true)

pub read_extract_table-requires : goal.read_extract_table-requires
read_extract_table-requires c = equal-columns _ (passed (sym c.are_equal.ensures ∙ c.if-are_equal.true))

pub returns-then-are_equal-clause-value : goal.returns-then-are_equal-clause-value
returns-then-are_equal-clause-value c =
    (call-read _ _ _ _ _ (tested c.args.schema c.is_schema_record.ensures c.if-is_schema_record.true) (sym c.are_equal.ensures ∙ c.if-are_equal.true) _ c.schema_words-words.ensures c.read_extract_table.ensures.read).answer

pub returns-then-are_equal-clause-left_rows : goal.returns-then-are_equal-clause-left_rows
returns-then-are_equal-clause-left_rows c =
    record {
      same = c.read_extract_table.ensures.same;
      cells = (call-read _ _ _ _ _ (tested c.args.schema c.is_schema_record.ensures c.if-is_schema_record.true) (sym c.are_equal.ensures ∙ c.if-are_equal.true) _ c.schema_words-words.ensures c.read_extract_table.ensures.read).cells;
    }

pub returns-clause-value : goal.returns-clause-value
returns-clause-value c =
    rw c.of.ensures
    (elim c.else-is_schema_record.branch [
      | else-is_schema_record-via-then-is_schema_record+else-are_equal w ↦
          (call-no-columns _ c.args.extract.now (lent_columns c.args.columns.now) (lent_columns c.clear.new.self) _ (tested c.args.schema c.is_schema_record.ensures w.if-is_schema_record.true) (sym w.are_equal.ensures ∙ w.if-are_equal.false) refl c.clear.ensures.cells).answer
      | else-is_schema_record-via-else-is_schema_record w ↦
          (call-no-record _ c.args.extract.now (lent_columns c.args.columns.now) (lent_columns c.clear.new.self) _ (tested c.args.schema c.is_schema_record.ensures w.if-is_schema_record.false) refl c.clear.ensures.cells).answer
    ])

pub returns-clause-left_rows : goal.returns-clause-left_rows
returns-clause-left_rows c =
    record {
      same = c.clear.ensures.same;
      cells = elim c.else-is_schema_record.branch [
        | else-is_schema_record-via-then-is_schema_record+else-are_equal w ↦
            (call-no-columns _ c.args.extract.now (lent_columns c.args.columns.now) (lent_columns c.clear.new.self) _ (tested c.args.schema c.is_schema_record.ensures w.if-is_schema_record.true) (sym w.are_equal.ensures ∙ w.if-are_equal.false) refl c.clear.ensures.cells).cells
        | else-is_schema_record-via-else-is_schema_record w ↦
            (call-no-record _ c.args.extract.now (lent_columns c.args.columns.now) (lent_columns c.clear.new.self) _ (tested c.args.schema c.is_schema_record.ensures w.if-is_schema_record.false) refl c.clear.ensures.cells).cells
      ];
    }
