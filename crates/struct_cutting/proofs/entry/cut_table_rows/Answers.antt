-- `cut_table_rows` meets its contract: more rows than a table can have are refused by 1; else what cutting the rows that are laid in columns answers.
use Rattle.std.proofs.Common.{List, map, ℕ, length, ◌≡◌, true, sym, ap, subst, ◌∙◌, arith, ltb, ltb-true}
use Rattle.std.proofs.lemmas.List.{length-map}
use Rattle.compiled_schema.specs.records.Records.{record_with}
use Rattle.cells.specs.verdicts.Verdicts.{verdict}
use Rattle.cut_table.specs.laws.Answers.{AnsweredTable}
use Rattle.library_spec.specs.Calls.{structs_after, table_cut, table_cut_rows}
use Rattle.row_structs.specs.Structs.{AnsweredFor, cells_in, columns_in}
use Rattle.row_structs.specs.declared.Row.{Row}
use Rattle.row_structs.specs.laws.Answers.{part_sizes, front}
use Rattle.struct_cutting.specs.entry.Cutting.{many-refused, cut-for}
use Rattle.table_spec.specs.Columns.{Columns, columns}
use Rattle.text_spec.specs.Limits.{max_nodes}
use Rattle.text_spec.specs.Records.{TextRecord}
use Rattle.text_spec.specs.Refusals.{refused, at, bad_record}
use Rattle.struct_cutting.proofs.entry.cut_table_rows.Goals.{After-cut_into-answer}
use Rattle.struct_cutting.proofs.entry.cut_table_rows.Goals as goal

-- more than a table can have
many : (schema : TextRecord) (word n : ℕ) (rows : List Row) → ltb max_nodes (length rows) ≡ true → table_cut_rows schema (map cells_in rows) word n ≡ refused (at bad_record 0)
many schema word n rows e = many-refused schema word (map cells_in rows) n (omega (arith, ltb-true max_nodes (length rows) e, length-map rows cells_in))

pub returns-then-are_too_many-clause-value : goal.returns-then-are_too_many-clause-value
returns-then-are_too_many-clause-value c =
    let at = c.args in
    c.refused_rows.ensures.value ∙ sym (ap verdict (many (record_with at.schema.bytes at.schema.len) at.word (length at.out.now) at.rows.now (sym c.are_too_many.ensures ∙ c.if-are_too_many.true)))

pub returns-then-are_too_many-clause-out_after : goal.returns-then-are_too_many-clause-out_after
returns-then-are_too_many-clause-out_after c =
    let at = c.args in
    c.refused_rows.ensures.rows_after
    ∙ sym (ap (structs_after (length at.out.now)) (many (record_with at.schema.bytes at.schema.len) at.word (length at.out.now) at.rows.now (sym c.are_too_many.ensures ∙ c.if-are_too_many.true)))

-- what is cut in the first cells, of the columns that the rows are laid in
cut : (c : After-cut_into-answer)
    → AnsweredTable (table_cut (record_with c.args.schema.bytes c.args.schema.len) (record { columns = columns_in c.columns_of-laid.result; count = length c.args.rows.now }) c.args.word (part_sizes c.min-size.result)) (part_sizes c.min-size.result)
    c.cut_into-answer.result
    (columns c.cut_into-answer.new.numbers c.cut_into-answer.new.names c.cut_into-answer.new.parents c.cut_into-answer.new.starts c.cut_into-answer.new.lengths c.cut_into-answer.new.decoded)
cut c =
    let cells = c.cut_into-answer.new in
    let size = part_sizes c.min-size.result in
    subst
    (λ (t : Columns).
    AnsweredTable (table_cut (record_with c.args.schema.bytes c.args.schema.len) (record { columns = t; count = length c.args.rows.now }) c.args.word size) size c.cut_into-answer.result
    (columns cells.numbers cells.names cells.parents cells.starts cells.lengths cells.decoded))
    c.as_columns.ensures.value c.cut_into-answer.ensures

answered : (c : After-cut_into-answer)
    → AnsweredFor (table_cut_rows (record_with c.args.schema.bytes c.args.schema.len) (map cells_in c.args.rows.now) c.args.word (length c.args.out.now)) (length c.args.out.now) c.cut_into-answer.result
    (columns (front c.min-size.result c.cut_into-answer.new.numbers) (front c.min-size.result c.cut_into-answer.new.names) (front c.min-size.result c.cut_into-answer.new.parents)
    (front c.min-size.result c.cut_into-answer.new.starts) (front c.min-size.result c.cut_into-answer.new.lengths) (front c.min-size.result c.cut_into-answer.new.decoded))
answered c =
    let at = c.args in
    let cells = c.cut_into-answer.new in
    cut-for (record_with at.schema.bytes at.schema.len) at.word (map cells_in at.rows.now) (length at.out.now) (columns_in c.columns_of-laid.result) (length at.rows.now) c.as_columns.ensures.sizes
    (length-map at.rows.now cells_in) c.columns_of-laid.ensures c.min-size.result c.min-size.ensures c.cut_into-answer.result
    cells.numbers cells.names cells.parents cells.starts cells.lengths cells.decoded (cut c)

pub put_rows-requires : goal.put_rows-requires
put_rows-requires c = (answered (goal.at.put_rows-requires c).After-cut_into-answer).past

pub returns-clause-value : goal.returns-clause-value
returns-clause-value c = (answered (goal.at.returns-clause-value c).After-cut_into-answer).answer

pub returns-clause-out_after : goal.returns-clause-out_after
returns-clause-out_after c = c.put_rows.ensures ∙ (answered (goal.at.returns-clause-out_after c).After-cut_into-answer).cells
