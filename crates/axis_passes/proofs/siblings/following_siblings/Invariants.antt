use Prim.Native.Nat.{◌-◌}
use lib.ListN.{length}
use Rattle.axis_passes.specs.siblings.Following.{Following}
use Rattle.axis_passes.proofs.siblings.following_siblings.Given as goal

abbrev pub invariant-loop-r : goal.invariant-loop-r
invariant-loop-r l = Following l.parents l.initial.from l.initial.out l.r l.from l.out

abbrev pub decreases-loop-r : goal.decreases-loop-r
decreases-loop-r l = length l.initial.out - l.r
