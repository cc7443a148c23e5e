use native.Mathlib.Nat.{le_of_lt, lt_trans}
use Rattle.journal_reader.specs.event_step.Points.{read-on}
use Rattle.journal_reader.specs.state.ReadingLaws.{few-nodes}
use Rattle.journal_reader.proofs.event_step.read_on.Goals as goal

pub to_event-lex-requires : goal.to_event-lex-requires
to_event-lex-requires c =
    let u = c.requires.ahead.0 in
    (record { table = c.requires.ahead.1; short = c.requires.ahead.2; inside = le_of_lt c.requires.ahead.3; lent = u.lent; valid = u.valid }, c.requires.ahead.3)

pub read_event-build-requires : goal.read_event-build-requires
read_event-build-requires c =
    let u = c.requires.ahead.0 in
    (u.shallow, few-nodes u (lt_trans c.requires.ahead.3 c.requires.ahead.2), u.equal, c.requires.sized, c.requires.few)

pub returns-clause-read : goal.returns-clause-read
returns-clause-read c = read-on c.requires.ahead.0 c.to_event-lex.ensures c.read_event-build.ensures.read
