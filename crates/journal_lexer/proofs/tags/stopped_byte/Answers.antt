-- `stopped_byte` meets its contract.
use Rattle.journal_lexer.specs.tags.Laws.{stopped-stop}
use Rattle.journal_lexer.proofs.tags.stopped_byte.Goals as goal

pub returns : goal.returns
returns c = stopped-stop c.requires c.stop.ensures.0 c.stop.ensures.1
