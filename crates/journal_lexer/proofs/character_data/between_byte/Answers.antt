-- `between_byte` meets its contract: by the kind of the byte.
use Rattle.journal_lexer.specs.declared.kinds.ByteKind.TheVariants.{Less}
use Rattle.journal_lexer.proofs.Tests.{kind-is, kind-not}
use Rattle.journal_lexer.specs.character_data.Laws.{handed-cleared, less-between, between-data}
use Rattle.journal_lexer.proofs.character_data.between_byte.Goals as goal

pub returns-then-eq : goal.returns-then-eq
returns-then-eq c = less-between c.requires (kind-is c.args.c Less c.if-eq.ensures) c.tag_opens.ensures.1 c.tag_opens.ensures.0

pub data_byte-requires : goal.data_byte-requires
data_byte-requires c = handed-cleared c.requires

pub returns : goal.returns
returns c = between-data c.requires (kind-not c.args.c Less c.if-eq.ensures) c.data_byte.ensures
