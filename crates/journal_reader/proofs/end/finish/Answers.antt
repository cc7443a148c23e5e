use Rattle.journal_reader.specs.end.Ends.{finished}
use Rattle.journal_reader.specs.event_rows.Events.{event-read}
use Rattle.journal_reader.specs.state.ReadingLaws.{few-nodes}
use Rattle.journal_reader.proofs.end.finish.Goals as goal

pub on_data_event-y-requires : goal.on_data_event-y-requires
on_data_event-y-requires c =
    let u = c.requires.0 in
    (u.shallow, few-nodes u c.requires.1, c.ending-last.ensures.event)

pub add_row-requires : goal.add_row-requires
add_row-requires c = c.requires.0.equal

pub returns-clause-finished : goal.returns-clause-finished
returns-clause-finished c t =
    let found = c.found_key-key.ensures in
    finished c.requires.1 c.ending-last.ensures (event-read (c.on_data_event-y.ensures t) c.add_row.ensures.row) found.0 found.1 found.2 c.answer_of.ensures
