-- `select_nodes_rows` meets its contract: more rows than a table can have are refused by 1; else what selecting on the rows that are laid in columns answers.
use Rattle.std.proofs.Common.{map, length, sym, ◌∙◌, arith, ltb-true}
use Rattle.std.proofs.lemmas.List.{length-map}
use Rattle.compiled_schema.specs.records.Records.{record_with}
use Rattle.row_structs.specs.Structs.{cells_in, columns_in}
use Rattle.struct_selecting.specs.entry.Selecting.{selected-laid, selected-many}
use Rattle.text_spec.specs.Limits.{max_nodes}
use Rattle.struct_selecting.proofs.entry.select_nodes_rows.Goals as goal

pub returns-then-are_too_many : goal.returns-then-are_too_many
returns-then-are_too_many c =
    let at = c.args in
    let past = ltb-true max_nodes (length at.rows.now) (sym c.are_too_many.ensures ∙ c.if-are_too_many.true) in
    selected-many (record_with at.schema.bytes at.schema.len) (record_with at.bundle.bytes at.bundle.len) at.place at.lent.now _ _ (map cells_in at.rows.now) _ _ _
    (omega (arith, past, length-map at.rows.now cells_in)) (rw c.of.ensures at c.refused.ensures)

pub returns : goal.returns
returns c =
    let at = c.args in
    selected-laid (record_with at.schema.bytes at.schema.len) (record_with at.bundle.bytes at.bundle.len) at.place at.lent.now _ _ (map cells_in at.rows.now) _ _ _ _ (columns_in c.columns_of-laid.result) (length at.rows.now)
    c.as_columns.ensures.value c.as_columns.ensures.sizes (length-map at.rows.now cells_in) c.columns_of-laid.ensures c.select_nodes.ensures
