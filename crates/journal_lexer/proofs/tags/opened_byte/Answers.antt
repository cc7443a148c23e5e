-- `opened_byte` meets its contract: by the kind of the byte.
use Rattle.journal_lexer.specs.tags.Laws.{opened-slash, opened-letter, opened-stop}
use Rattle.journal_lexer.proofs.tags.opened_byte.Goals as goal

pub returns-in-Slash : goal.returns-in-Slash
returns-in-Slash c = opened-slash c.requires c.in-Slash.is c.goes.ensures

pub returns-in-Letter : goal.returns-in-Letter
returns-in-Letter c = opened-letter c.requires c.in-Letter.is c.begun.ensures

pub returns-in_default : goal.returns-in_default
returns-in_default c = opened-stop c.requires c.in_default.not-Slash c.in_default.not-Letter c.stop.ensures.0 c.stop.ensures.1
