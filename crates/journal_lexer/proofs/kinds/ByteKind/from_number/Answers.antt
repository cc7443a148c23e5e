-- `from_number` meets its contract: the step by the number is the step by the kind.
use Rattle.std.proofs.Common.{sym, subst}
use Rattle.journal_lexer.specs.kinds.Numbers.{kind-reads, KindReads}
use Rattle.journal_lexer.proofs.kinds.ByteKind.from_number.Goals as goal

pub returns-clause-reads : goal.returns-clause-reads
returns-clause-reads c = subst (KindReads c.args.number) (sym c.numbered.ensures) (kind-reads c.args.number)
