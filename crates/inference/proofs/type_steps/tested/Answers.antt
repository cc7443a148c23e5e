-- `tested` meets its contract: one element alone.
use Rattle.std.proofs.Common.{subst, ℕ}
use Rattle.inference.specs.type_steps.Laws.{Tested, one-tested}
use Rattle.path_spec.specs.Paths.{named}
use Rattle.inference.proofs.type_steps.tested.Goals as goal

pub returns-in-Element : goal.returns-in-Element
returns-in-Element c =
    rw c.in-Element.is (subst (λ (e : ℕ). Tested (named e) c.args.t c.bitand.result) c.from.ensures
    (one-tested c.from.result c.args.t c.empty.result c.insert_element.result c.bitand.result c.empty.ensures c.insert_element.ensures c.bitand.ensures))
