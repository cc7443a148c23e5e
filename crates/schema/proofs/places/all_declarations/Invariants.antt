-- `all_declarations` meets its contract: what was read up to i.
use mathlib.Core.Path.{◌≡◌}
use Prim.Native.Nat.{◌-◌}
use lib.ListN.{length}
use Rattle.schema.specs.places.Whole.{UpTo}
use Rattle.schema.proofs.places.all_declarations.Given as goal

abbrev pub invariant-loop-i : goal.invariant-loop-i
invariant-loop-i l = UpTo l.s l.i l.d l.n l.over l.initial.names l.names l.uses × (length l.unused ≡ 1)

abbrev pub decreases-loop-i : goal.decreases-loop-i
decreases-loop-i l = length l.s - l.i
