use Rattle.std.proofs.Common.{◌≡◌, length}
use Rattle.listing.proofs.print_rows.Given as goal

abbrev pub invariant-loop-r : goal.invariant-loop-r
invariant-loop-r l = length l.line ≡ 2200
