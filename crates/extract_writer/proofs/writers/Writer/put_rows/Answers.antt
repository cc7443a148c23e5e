-- `put_rows` meets its contract: one row's field after the other.
use native.Mathlib.Omega.{arith}
use Rattle.cells.specs.columns.Lent.{read_columns}
use Rattle.extract_writer.specs.rows.Rows.{fields-none, fields-row, fields-next, fields-all}
use Rattle.extract_writer.proofs.writers.Writer.put_rows.Goals as goal

pub loop-r-init : goal.loop-r-init
loop-r-init c = fields-none c.args.text.now (read_columns c.args.table.now) c.args.marks.now c.args.self.now c.requires

pub put_row-requires : goal.put_row-requires
put_row-requires c =
    fields-row c.args.text.now (read_columns c.args.table.now) c.args.marks.now c.args.self.now c.requires c.loop-r.r c.loop-r.self c.loop-r.invariant c.loop-r-test.true

pub loop-r-preserved : goal.loop-r-preserved
loop-r-preserved c =
    fields-next c.args.text.now (read_columns c.args.table.now) c.args.marks.now c.args.self.now c.requires c.loop-r.r c.loop-r.self c.loop-r.invariant c.loop-r-test.true _ c.put_row.ensures

pub returns : goal.returns
returns c =
    fields-all c.args.text.now (read_columns c.args.table.now) c.args.marks.now c.args.self.now c.requires c.loop-r.r c.loop-r.self c.loop-r.invariant (omega arith)
