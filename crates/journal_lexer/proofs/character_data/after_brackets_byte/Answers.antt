-- `after_brackets_byte` meets its contract: by the kind of the byte.
use Rattle.journal_lexer.specs.character_data.Laws.{brackets-more, brackets-closing, brackets-plain}
use Rattle.journal_lexer.proofs.character_data.after_brackets_byte.Goals as goal

pub returns-in-Bracket : goal.returns-in-Bracket
returns-in-Bracket c = brackets-more c.requires c.in-Bracket.is c.goes.ensures

pub returns-in-Greater : goal.returns-in-Greater
returns-in-Greater c = brackets-closing c.requires c.saturating_sub.result c.saturating_sub.ensures c.in-Greater.is c.goes-in-Greater.ensures

pub returns-in_default : goal.returns-in_default
returns-in_default c = brackets-plain c.requires c.in_default.not-Bracket c.in_default.not-Greater c.plain_byte.ensures
