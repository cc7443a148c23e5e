use Rattle.std.proofs.Common.{◌≡◌, length}
use Rattle.chains.proofs.tags.Loops.{IsSize}
use Rattle.text_laws.specs.Loops.{Passed}
use Rattle.chains.proofs.tags.name_sizes.Given as goal

abbrev pub invariant-loop-e : goal.invariant-loop-e
invariant-loop-e l = (length l.sizes ≡ length l.names) × Passed (IsSize l.text l.names) 0 l.initial.sizes l.e l.sizes
