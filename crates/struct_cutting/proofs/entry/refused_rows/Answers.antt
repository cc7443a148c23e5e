-- `refused_rows` meets its contract: columns of zeros are written.
use Rattle.std.proofs.Common.{length, ap, ◌∙◌}
use Rattle.row_structs.specs.laws.Answers.{in-zeros}
use Rattle.table_spec.specs.Columns.{Columns, cells_at, cells_from}
use Rattle.text_spec.specs.Limits.{max_nodes}
use Rattle.struct_cutting.proofs.entry.refused_rows.Goals as goal

pub put_rows-requires : goal.put_rows-requires
put_rows-requires c = ap (λ (t : Columns). cells_at t max_nodes) c.empty.ensures ∙ (in-zeros 0).past

pub returns-clause-rows_after : goal.returns-clause-rows_after
returns-clause-rows_after c =
    c.put_rows.ensures ∙ ap (λ (t : Columns). cells_from t 0 (length c.args.rows.now)) c.empty.ensures ∙ (in-zeros (length c.args.rows.now)).cells
