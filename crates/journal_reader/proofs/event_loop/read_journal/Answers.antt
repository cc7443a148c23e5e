use Rattle.std.proofs.Common.{sym, subst}
use Prim.Native.Nat.{ℕ, ◌<◌}
use Rattle.journal_lexer.specs.state.Places.{no_place}
use Rattle.journal_reader.specs.event_loop.Journals.{usable-first, journal-read}
use Rattle.journal_reader.specs.rows.Kept.{same-then}
use Rattle.journal_reader.proofs.event_loop.read_journal.Goals as goal

pub read_all-x-requires : goal.read_all-x-requires
read_all-x-requires c = (usable-first c.none-places.ensures c.requires.1, c.all_kinds-table.ensures, c.requires.0, c.requires.2, c.requires.3)

pub finish-requires : goal.finish-requires
finish-requires c =
    let all = c.read_all-x.ensures.read in
    (all.usable, subst (λ (k : ℕ). k < no_place) (sym all.place) c.requires.0)

pub returns-clause-same : goal.returns-clause-same
returns-clause-same c = same-then c.read_all-x.ensures.same c.finish.ensures.same

pub returns-clause-read : goal.returns-clause-read
returns-clause-read c = journal-read c.none-places.ensures c.read_all-x.ensures.read (c.finish.ensures.finished _)
