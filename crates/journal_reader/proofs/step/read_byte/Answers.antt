use Rattle.journal_reader.specs.state.ReadingLaws.{few-nodes}
use Rattle.journal_reader.specs.step.Steps.{byte-read}
use Rattle.journal_reader.proofs.step.read_byte.Goals as goal

pub read_event-build-requires : goal.read_event-build-requires
read_event-build-requires c =
    let u = c.requires.usable in
    (u.shallow, few-nodes u c.requires.handed.room, u.equal, c.requires.sized, c.requires.few)

pub returns-clause-read : goal.returns-clause-read
returns-clause-read c = byte-read c.requires.usable c.requires.handed.room c.step-lex.ensures c.read_event-build.ensures.read
