use Rattle.std.proofs.Common.{◌≡◌, ◌+◌, ◌-◌}
use Rattle.compiled_paths.specs.Steps.{first_size}
use Rattle.compiled_paths.proofs.first_size.Given as goal

abbrev pub invariant-loop-i : goal.invariant-loop-i
invariant-loop-i l = first_size l.steps l.n l.k ≡ l.i + first_size l.steps (l.n - l.i) (l.k + l.i)
