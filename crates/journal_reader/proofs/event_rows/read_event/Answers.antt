use Rattle.journal_reader.specs.event_rows.Events.{event-read}
use Rattle.journal_reader.proofs.event_rows.read_event.Goals as goal

pub returns-clause-read : goal.returns-clause-read
returns-clause-read c = event-read c.on_event-x.ensures c.add_row.ensures.row
