-- `put_row` meets its contract: no field of a row that is not marked, and that of an element or a text.
use native.Mathlib.Omega.{arith}
use Rattle.cells.specs.columns.Lent.{read_columns}
use Rattle.extract_writer.specs.rows.Rows.{row-skipped, element-room, element-put, text-asked, text-put}
use Rattle.extract_writer.proofs.writers.Writer.put_row.Goals as goal

pub returns-then-mark-ne-MARKED : goal.returns-then-mark-ne-MARKED
returns-then-mark-ne-MARKED c = row-skipped _ _ _ _ _ c.requires c.if-mark-ne-MARKED.true

pub put_element-requires : goal.put_element-requires
put_element-requires c =
    element-room c.args.text.now (read_columns c.args.table.now) c.args.mark c.args.r c.args.self.now c.requires (omega arith) c.if-name-lt-MAX_ELEMENTS.true

pub returns-then-name-lt-MAX_ELEMENTS : goal.returns-then-name-lt-MAX_ELEMENTS
returns-then-name-lt-MAX_ELEMENTS c =
    element-put c.args.text.now (read_columns c.args.table.now) c.args.mark c.args.r c.args.self.now c.requires (omega arith) c.if-name-lt-MAX_ELEMENTS.true _ c.put_element.ensures

pub put_text-requires : goal.put_text-requires
put_text-requires c =
    text-asked c.args.text.now (read_columns c.args.table.now) c.args.mark c.args.r c.args.self.now c.requires (omega arith) c.if-name-lt-MAX_ELEMENTS.false

pub returns : goal.returns
returns c =
    text-put c.args.text.now (read_columns c.args.table.now) c.args.mark c.args.r c.args.self.now c.requires (omega arith) c.if-name-lt-MAX_ELEMENTS.false _ c.put_text.ensures
