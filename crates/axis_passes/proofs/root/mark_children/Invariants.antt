use Prim.Native.Nat.{◌-◌}
use lib.ListN.{length}
use Rattle.axis_passes.specs.root.Roots.{at_root}
use Rattle.cells.specs.row_sets.Columns.{marks}
use Rattle.cells.specs.row_sets.Loops.{Forward}
use Rattle.axis_passes.proofs.root.mark_children.Given as goal

abbrev pub invariant-loop-r : goal.invariant-loop-r
invariant-loop-r l = Forward (marks (length l.parents) (at_root l.parents)) l.initial.out l.r l.out

abbrev pub decreases-loop-r : goal.decreases-loop-r
decreases-loop-r l = length l.initial.out - l.r
