-- `after_name_byte` meets its contract.
use Rattle.journal_lexer.specs.tags.Laws.{after-name-past}
use Rattle.journal_lexer.proofs.tags.after_name_byte.Goals as goal

pub returns : goal.returns
returns c = after-name-past c.requires c.past_name.ensures
