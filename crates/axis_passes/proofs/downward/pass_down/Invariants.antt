use Rattle.std.proofs.Common.{◌≡◌, ℕ, ◌<◌, length, get_or}
use Rattle.axis_passes.proofs.downward.pass_down.Given as goal

abbrev pub invariant-loop-r : goal.invariant-loop-r
invariant-loop-r g l = record {
  size : length l.out ≡ length l.parents;
  root : get_or l.out 0 0 ≡ l.first;
  rows : (k : ℕ) → k < l.r → 0 < k → goal.F-post g l.rule (get_or l.from k 0) (get_or l.from (get_or l.parents k 0) 0) (get_or l.out (get_or l.parents k 0) 0) (get_or l.out k 0);
}
