-- `write_under` meets its contract: the names needed, the bytes, the last test.
use Rattle.std.specs.Prelude.{◌≤◌, refl, length}
use Rattle.std.proofs.Common.{sym, ap, subst, ◌∙◌}
use Rattle.cells.specs.columns.Columns.{EqualColumns}
use Rattle.cells.specs.lent.Columns.{first_cells}
use Rattle.extract_writer.specs.rows.Rows.{ExtractColumns}
use Rattle.extract_writer.specs.writing.Extract.{extract_in, BytesWritten}
use Rattle.host_making.specs.accepted.Making.{answer-short, answer-enough}
use Rattle.kept_rows.specs.Kept.{in_set, kept_marks, KeptColumns}
use Rattle.table_spec.specs.Columns.{Columns}
use Rattle.host_making.proofs.accepted.write_under.Goals as goal

pub needed_under-needed-requires : goal.needed_under-needed-requires
needed_under-needed-requires c = let pre = c.requires in (pre.0, pre.1)

pub first-requires-clause-equal : goal.first-requires-clause-equal
first-requires-clause-equal c = subst EqualColumns (sym c.as_columns.ensures) c.requires.2.equal

pub first-requires-clause-room : goal.first-requires-clause-room
first-requires-clause-room c = subst (λ (y : Columns). c.args.rows ≤ length y.numbers) (sym c.as_columns.ensures) c.requires.2.room

pub write_kept-bytes-requires-clause-columns : goal.write_kept-bytes-requires-clause-columns
write_kept-bytes-requires-clause-columns c =
    subst (λ (y : Columns). ExtractColumns c.args.journal.now y (length y.numbers)) (sym (c.first.ensures ∙ ap (first_cells c.args.rows) c.as_columns.ensures)) c.requires.2.texts

pub write_kept-bytes-requires-clause-kept : goal.write_kept-bytes-requires-clause-kept
write_kept-bytes-requires-clause-kept c =
    subst (λ (y : Columns). KeptColumns y.names y.parents) (sym (c.first.ensures ∙ ap (first_cells c.args.rows) c.as_columns.ensures)) c.requires.2.kept

pub returns-then-out-bytes-clause-written : goal.returns-then-out-bytes-clause-written
returns-then-out-bytes-clause-written c =
    let set = c.needed_under-needed.result in
    record {
      set = set;
      need = c.needed_under-needed.ensures;
      size = c.write_kept-bytes.result;
      bytes =
          subst (λ (y : Columns). BytesWritten c.args.out.now (extract_in c.args.journal.now y (kept_marks (in_set set) y.names y.parents)) c.write_kept-bytes.result c.write_kept-bytes.new.out)
          (c.first.ensures ∙ ap (first_cells c.args.rows) c.as_columns.ensures) c.write_kept-bytes.ensures;
      last = rw c.of.ensures (answer-short _ _ _ _ _ _ c.if-out-bytes.true refl c.clear.ensures.cells);
    }

pub returns-clause-written : goal.returns-clause-written
returns-clause-written c =
    let set = c.needed_under-needed.result in
    record {
      set = set;
      need = c.needed_under-needed.ensures;
      size = c.write_kept-bytes.result;
      bytes =
          subst (λ (y : Columns). BytesWritten c.args.out.now (extract_in c.args.journal.now y (kept_marks (in_set set) y.names y.parents)) c.write_kept-bytes.result c.write_kept-bytes.new.out)
          (c.first.ensures ∙ ap (first_cells c.args.rows) c.as_columns.ensures) c.write_kept-bytes.ensures;
      last = answer-enough _ _ _ _ _ c.if-out-bytes.false refl;
    }
