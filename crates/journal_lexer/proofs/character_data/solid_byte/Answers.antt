-- `solid_byte` meets its contract.
use Rattle.journal_lexer.specs.character_data.Laws.{solid-plain}
use Rattle.journal_lexer.proofs.character_data.solid_byte.Goals as goal

pub returns : goal.returns
returns c = solid-plain c.requires c.plain_byte.ensures
