use Prim.Native.Nat.{◌-◌}
use lib.ListN.{length}
use Rattle.cells.specs.row_sets.Columns.{union}
use Rattle.cells.specs.row_sets.Loops.{Forward}
use Rattle.axis_passes.proofs.mark_sets.unite.Given as goal

abbrev pub invariant-loop-r : goal.invariant-loop-r
invariant-loop-r l = Forward (union l.initial.out l.from) l.initial.out l.r l.out

abbrev pub decreases-loop-r : goal.decreases-loop-r
decreases-loop-r l = length l.initial.out - l.r
