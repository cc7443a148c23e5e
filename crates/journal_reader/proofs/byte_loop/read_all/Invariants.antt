use Rattle.cells.specs.columns.Lent.{lent_columns}
use Rattle.journal_reader.specs.rows.Kept.{Kept}
use Rattle.journal_reader.specs.byte_loop.Whole.{SomeRead}
use Rattle.journal_reader.proofs.byte_loop.read_all.Given as goal

abbrev pub invariant-loop-at : goal.invariant-loop-at
invariant-loop-at l =
    Kept l.initial.columns l.columns
    × SomeRead l.schema l.text l.at l.initial.levels l.initial.places (lent_columns l.initial.columns) l.levels l.places (lent_columns l.columns) l.x
