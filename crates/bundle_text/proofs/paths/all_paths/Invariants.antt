-- `all_paths` meets its contract: path by path.
use Rattle.std.proofs.Common.{◌-◌, length}
use Rattle.bundle_text.proofs.paths.Bundles.{Upto}
use Rattle.bundle_text.proofs.paths.all_paths.Given as goal

abbrev pub invariant-loop-i : goal.invariant-loop-i
invariant-loop-i l = Upto l.s l.initial.notes l.notes l.i l.over

abbrev pub decreases-loop-i : goal.decreases-loop-i
decreases-loop-i l = length l.s - l.i
