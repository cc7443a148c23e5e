-- `blanks_byte` meets its contract: by the kind of the byte.
use Rattle.journal_lexer.specs.declared.kinds.ByteKind.TheVariants.{Less}
use Rattle.journal_lexer.proofs.Tests.{kind-is, kind-not}
use Rattle.journal_lexer.specs.character_data.Laws.{blanks-less, blanks-data}
use Rattle.journal_lexer.proofs.character_data.blanks_byte.Goals as goal

pub returns-then-eq : goal.returns-then-eq
returns-then-eq c = blanks-less c.requires (kind-is c.args.c Less c.if-eq.ensures) c.tag_opens.ensures.1 c.tag_opens.ensures.0

pub returns : goal.returns
returns c = blanks-data c.requires (kind-not c.args.c Less c.if-eq.ensures) c.data_byte.ensures
