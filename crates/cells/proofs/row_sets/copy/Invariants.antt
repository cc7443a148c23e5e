use Prim.Native.Nat.{◌-◌}
use lib.ListN.{length}
use Rattle.cells.specs.row_sets.Loops.{Forward}
use Rattle.cells.proofs.row_sets.copy.Given as goal

abbrev pub invariant-loop-r : goal.invariant-loop-r
invariant-loop-r l = Forward l.from l.initial.out l.r l.out

abbrev pub decreases-loop-r : goal.decreases-loop-r
decreases-loop-r l = length l.initial.out - l.r
