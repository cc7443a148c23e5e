-- `kept` meets its contract.
use Rattle.needed_names.specs.conditions.Laws.{keeps-unconditional, keeps-conditional}
use Rattle.needed_names.proofs.conditions.kept.Goals as goal

pub returns-then-n-eq0 : goal.returns-then-n-eq0
returns-then-n-eq0 c = λ s k m i. keeps-unconditional c.args.asked.now.paths.now.steps s c.args.n c.args.i c.args.e.context c.args.e.types c.if-n-eq0.true m

pub returns-else-n-eq0 : goal.returns-else-n-eq0
returns-else-n-eq0 c = λ s k m i. keeps-conditional c.args.asked.now.paths.now.steps s c.args.n c.args.i c.args.e.context c.args.e.types c.kept_by_some.result c.if-n-eq0.false m (c.kept_by_some.ensures s k m i)
