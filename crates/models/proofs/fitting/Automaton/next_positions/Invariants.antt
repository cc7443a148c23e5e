-- `Automaton::next_positions`: the set has what the positions before p give.
use mathlib.Core.Path.{◌≡◌}
use Prim.Native.Nat.{ℕ}
use Rattle.models.specs.fitting.Steps.{comes_next}
use Rattle.schema_spec.specs.Names.{has_bit}
use Rattle.models.proofs.fitting.Automaton.next_positions.Given as goal

abbrev pub invariant-loop-p : goal.invariant-loop-p
invariant-loop-p l = (j : ℕ) → has_bit l.set j ≡ comes_next l.self.ends l.self.elements.now l.self.predecessors.now l.state l.child l.p j
