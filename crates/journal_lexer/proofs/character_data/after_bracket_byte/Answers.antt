-- `after_bracket_byte` meets its contract: by the kind of the byte.
use Rattle.journal_lexer.specs.declared.kinds.ByteKind.TheVariants.{Bracket}
use Rattle.journal_lexer.proofs.Tests.{kind-is, kind-not}
use Rattle.journal_lexer.specs.character_data.Laws.{bracket-more, bracket-plain}
use Rattle.journal_lexer.proofs.character_data.after_bracket_byte.Goals as goal

pub returns-then-eq : goal.returns-then-eq
returns-then-eq c = bracket-more c.requires (kind-is c.args.c Bracket c.if-eq.ensures) c.goes.ensures

pub returns : goal.returns
returns c = bracket-plain c.requires (kind-not c.args.c Bracket c.if-eq.ensures) c.plain_byte.ensures
