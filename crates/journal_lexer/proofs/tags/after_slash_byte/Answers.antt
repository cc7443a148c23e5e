-- `after_slash_byte` meets its contract: by the kind of the byte.
use Rattle.journal_lexer.specs.declared.kinds.ByteKind.TheVariants.{Greater}
use Rattle.journal_lexer.proofs.Tests.{kind-is, kind-not}
use Rattle.journal_lexer.specs.tags.Laws.{slash-closed, slash-stop}
use Rattle.journal_lexer.proofs.tags.after_slash_byte.Goals as goal

pub returns-then-eq : goal.returns-then-eq
returns-then-eq c = slash-closed c.requires (kind-is c.args.c Greater c.if-eq.ensures) c.tells.ensures

pub returns : goal.returns
returns c = slash-stop c.requires (kind-not c.args.c Greater c.if-eq.ensures) c.stop.ensures.0 c.stop.ensures.1
