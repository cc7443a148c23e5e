-- `ending_byte` meets its contract: by the kind of the byte.
use Rattle.journal_lexer.specs.declared.kinds.ByteKind.TheVariants.{Letter}
use Rattle.journal_lexer.proofs.Tests.{kind-is, kind-not}
use Rattle.journal_lexer.specs.tags.Laws.{ending-letter, ending-stop}
use Rattle.journal_lexer.proofs.tags.ending_byte.Goals as goal

pub returns-then-eq : goal.returns-then-eq
returns-then-eq c = ending-letter c.requires (kind-is c.args.c Letter c.if-eq.ensures) c.begun.ensures

pub returns : goal.returns
returns c = ending-stop c.requires (kind-not c.args.c Letter c.if-eq.ensures) c.stop.ensures.0 c.stop.ensures.1
