-- `wanted` meets its contract.
use Rattle.inference.specs.back_steps.Laws.{empty-set_in}
use Rattle.needed_names.specs.conditions.Laws.{wants-unconditional, wants-conditional}
use Rattle.needed_names.proofs.conditions.wanted.Goals as goal

pub returns-then-n-eq0 : goal.returns-then-n-eq0
returns-then-n-eq0 c = λ s k.
    wants-unconditional c.args.asked.now.paths.now.steps s c.args.n c.args.i c.args.k c.args.h c.empty.result c.if-n-eq0.true (empty-set_in s c.empty.result c.empty.ensures)

pub returns-else-n-eq0 : goal.returns-else-n-eq0
returns-else-n-eq0 c = λ s k.
    wants-conditional c.args.asked.now.paths.now.steps s c.args.n c.args.i c.args.k c.args.h c.wanted_by_some.result c.if-n-eq0.false (c.wanted_by_some.ensures s k)
