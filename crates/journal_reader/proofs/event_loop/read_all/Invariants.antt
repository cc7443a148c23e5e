use Rattle.std.proofs.Common.{◌-◌, length}
use Rattle.cells.specs.columns.Lent.{lent_columns}
use Rattle.journal_reader.specs.rows.Kept.{Kept}
use Rattle.journal_reader.specs.event_loop.Events.{EventsRead}
use Rattle.journal_reader.proofs.event_loop.read_all.Given as goal

abbrev pub invariant-loop-x : goal.invariant-loop-x
invariant-loop-x l =
    Kept l.initial.columns l.columns
    × EventsRead l.schema l.text l.initial.levels l.initial.places (lent_columns l.initial.columns) l.levels l.places (lent_columns l.columns) l.x

abbrev pub decreases-loop-x : goal.decreases-loop-x
decreases-loop-x l = length l.text - l.x.lex.place
