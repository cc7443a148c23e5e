-- `after_end_name_byte` meets its contract.
use Rattle.journal_lexer.specs.tags.Laws.{after-end-name-past}
use Rattle.journal_lexer.proofs.tags.after_end_name_byte.Goals as goal

pub returns : goal.returns
returns c = after-end-name-past c.requires c.past_end_name.ensures
