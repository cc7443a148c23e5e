-- `read_journal_rows` meets its contract: what the reader answers in the first cells of columns of zeros.
use Rattle.std.proofs.Common.{length, ◌∙◌}
use Rattle.compiled_schema.specs.records.Records.{record_with}
use Rattle.library_spec.specs.Calls.{journal_read_rows}
use Rattle.row_structs.specs.Structs.{AnsweredFor}
use Rattle.row_structs.specs.laws.Answers.{front}
use Rattle.struct_reading.specs.entry.Reading.{read-for}
use Rattle.table_spec.specs.Columns.{columns}
use Rattle.struct_reading.proofs.entry.read_journal_rows.Goals.{After-read_into-answer}
use Rattle.struct_reading.proofs.entry.read_journal_rows.Goals as goal

answered : (c : After-read_into-answer)
    → AnsweredFor (journal_read_rows (record_with c.args.schema.bytes c.args.schema.len) c.args.text.now (length c.args.rows.now)) (length c.args.rows.now) c.read_into-answer.result
    (columns (front c.min-size.result c.read_into-answer.new.numbers) (front c.min-size.result c.read_into-answer.new.names) (front c.min-size.result c.read_into-answer.new.parents)
    (front c.min-size.result c.read_into-answer.new.starts) (front c.min-size.result c.read_into-answer.new.lengths) (front c.min-size.result c.read_into-answer.new.decoded))
answered c =
    let cells = c.read_into-answer.new in
    let said = c.read_into-answer.ensures in
    read-for (record_with c.args.schema.bytes c.args.schema.len) c.args.text.now (length c.args.rows.now) c.min-size.result c.min-size.ensures c.read_into-answer.result
    cells.numbers cells.names cells.parents cells.starts cells.lengths cells.decoded said.value said.left

pub put_rows-requires : goal.put_rows-requires
put_rows-requires c = (answered (goal.at.put_rows-requires c).After-read_into-answer).past

pub returns-clause-value : goal.returns-clause-value
returns-clause-value c = (answered (goal.at.returns-clause-value c).After-read_into-answer).answer

pub returns-clause-rows_after : goal.returns-clause-rows_after
returns-clause-rows_after c = c.put_rows.ensures ∙ (answered (goal.at.returns-clause-rows_after c).After-read_into-answer).cells
