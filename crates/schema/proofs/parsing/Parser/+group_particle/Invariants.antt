-- `particle` and `group`: each call of one by the other leaves fewer groups that may still open; `group` has read up to i.
use Prim.Native.Nat.{◌+◌, ◌*◌, ◌-◌}
use lib.ListN.{length}
use Rattle.schema.proofs.groups.Groups.{GroupUpTo}
use Rattle.schema.proofs.parsing.Parser.+group_particle.Given as goal
use Rattle.text_spec.specs.Limits.{max_groups}

abbrev pub decreases-group : goal.decreases-group
decreases-group l = 2 * (max_groups - l.depth) + 1

abbrev pub decreases-particle : goal.decreases-particle
decreases-particle l = 2 * (max_groups - l.depth)

abbrev pub invariant-group-loop-p : goal.invariant-group-loop-p
invariant-group-loop-p l = GroupUpTo l.at l.depth l.initial.self l.self l.i l.parted l.ends

abbrev pub decreases-group-loop-p : goal.decreases-group-loop-p
decreases-group-loop-p l = length l.initial.self.text.now - l.i
