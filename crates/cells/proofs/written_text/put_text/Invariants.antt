use Prim.Native.Nat.{◌-◌}
use lib.ListN.{length}
use Rattle.cells.specs.written_text.Written.{Copying}
use Rattle.cells.proofs.written_text.put_text.Given as goal

abbrev pub invariant-loop-i : goal.invariant-loop-i
invariant-loop-i l = Copying l.text l.initial.out l.at l.i l.out

abbrev pub decreases-loop-i : goal.decreases-loop-i
decreases-loop-i l = length l.text - l.i
