-- `select_first` meets its contract: the first rows are a table.
use Rattle.std.proofs.Common.{sym, subst}
use Rattle.axis_passes.specs.rows.Rows.{TextColumns}
use Rattle.selection.specs.table.Tables.{RowsIn}
use Rattle.table_laws.specs.Columns.{TestedColumns}
use Rattle.table_spec.specs.Columns.{Columns}
use Rattle.host_selecting.proofs.accepted.select_first.Goals as goal

pub select_table-requires : goal.select_table-requires
select_table-requires c =
    let pre = c.requires in
    let same = sym c.first.ensures in (
      pre.0,
      pre.1,
      subst (λ (y : Columns). TestedColumns y.numbers y.names y.parents) same pre.2.tested,
      subst (λ (y : Columns). TextColumns y.parents y.starts y.lengths y.decoded c.args.extract.now) same pre.2.texts,
    )

pub returns : goal.returns
returns c = λ s text rows h.
    c.select_table.ensures s text rows (subst (λ (y : Columns). RowsIn s rows y.numbers y.names y.parents) (sym c.first.ensures) h)
