-- `from_number` meets its contract: what the number tells, the event does.
use Rattle.std.proofs.Common.{sym, subst}
use Rattle.journal_lexer.specs.state.Numbers.{event-tells, EventTells}
use Rattle.journal_lexer.proofs.state.Event.from_number.Goals as goal

pub returns-clause-means : goal.returns-clause-means
returns-clause-means c = subst (EventTells c.args.number) (sym c.numbered.ensures) (event-tells c.args.number)
