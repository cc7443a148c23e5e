-- `Ends::in_choice` meets its contract.
use Rattle.std.proofs.Common.{arith}
use Rattle.std.proofs.lemmas.Grind.{common_steps}
use Rattle.models.specs.BuildingLaws.{choice-ends}
use Rattle.models.proofs.Ends.in_choice.Goals as goal

pub returns-then-self : goal.returns-then-self
returns-then-self c k p q x y = choice-ends c.args.self c.args.other k p q x y _ (grind (arith, common_steps))

pub returns-else-self : goal.returns-else-self
returns-else-self c k p q x y = choice-ends c.args.self c.args.other k p q x y _ (grind (arith, common_steps))
