use Rattle.cells.specs.columns.Lent.{read_columns, lent_columns, Same}
use Rattle.kept_rows.specs.cut_rows.Rows.{marked_by, CutPass, RowsNoted}
use Rattle.kept_rows.proofs.cut_rows.write_rows.Given as goal

abbrev pub invariant-loop-r : goal.invariant-loop-r
invariant-loop-r l = CutPass l.positions (read_columns l.table) (lent_columns l.initial.out) × Same l.initial.out l.out
    × RowsNoted (marked_by l.positions) (read_columns l.table) (lent_columns l.initial.out) l.r (lent_columns l.out)
