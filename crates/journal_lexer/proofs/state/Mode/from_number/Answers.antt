-- `from_number` meets its contract: what the number stands for, the mode does.
use Rattle.std.proofs.Common.{sym, subst}
use Rattle.journal_lexer.specs.state.Numbers.{mode-means, ModeMeans}
use Rattle.journal_lexer.proofs.state.Mode.from_number.Goals as goal

pub returns-clause-means : goal.returns-clause-means
returns-clause-means c = subst (ModeMeans c.args.number) (sym c.numbered.ensures) (mode-means c.args.number)
