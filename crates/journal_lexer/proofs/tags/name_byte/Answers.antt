-- `name_byte` meets its contract: a byte more, or past the name.
use Rattle.std.proofs.Common.{sym}
use Rattle.journal_lexer.specs.tags.Laws.{in-name-longer, in-name-past}
use Rattle.journal_lexer.proofs.tags.name_byte.Goals as goal

pub returns-then-continues_name : goal.returns-then-continues_name
returns-then-continues_name c = in-name-longer c.requires (sym c.if-continues_name.ensures) c.longer.ensures

pub returns : goal.returns
returns c = in-name-past c.requires (sym c.if-continues_name.ensures) c.past_name.ensures
