-- `Ends::in_sequence` meets its contract.
use Rattle.std.proofs.Common.{arith, ◌≡◌, ◌&&◌, ◌||◌, ℕ}
use Rattle.std.proofs.lemmas.Grind.{common_steps}
use Rattle.models.specs.BuildingLaws.{sequence-ends}
use Rattle.names.specs.bits.Bits.{bit-or}
use Rattle.schema_spec.specs.Names.{has_bit}
use Rattle.models.proofs.Ends.in_sequence.Goals as goal
use Rattle.models.proofs.Ends.in_sequence.Goals.{Joined-next, then-self, else-self, then-next, else-next}

first-bits : (c : Joined-next) (i : ℕ) → has_bit c.if-self.first i ≡ (has_bit c.args.self.first i || (c.args.self.nullable && has_bit c.args.next.first i))
first-bits c i = elim c.if-self.branch [ then-self w ↦ grind (arith, common_steps, bit-or c.args.self.first c.args.next.first i) | else-self w ↦ grind (arith, common_steps) ]

last-bits : (c : Joined-next) (i : ℕ) → has_bit c.if-next.last i ≡ (has_bit c.args.next.last i || (c.args.next.nullable && has_bit c.args.self.last i))
last-bits c i = elim c.if-next.branch [ then-next w ↦ grind (arith, common_steps, bit-or c.args.next.last c.args.self.last i) | else-next w ↦ grind (arith, common_steps) ]

pub returns-then-self-2 : goal.returns-then-self-2
returns-then-self-2 c k p q x y = sequence-ends c.args.self c.args.next k p q x y _ _ _ (first-bits c.before) (last-bits c.before) (grind (arith, common_steps))

pub returns-else-self-2 : goal.returns-else-self-2
returns-else-self-2 c k p q x y = sequence-ends c.args.self c.args.next k p q x y _ _ _ (first-bits c.before) (last-bits c.before) (grind (arith, common_steps))
