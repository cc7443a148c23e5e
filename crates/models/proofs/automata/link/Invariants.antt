-- `link`: the positions that the loop has passed are linked.
use mathlib.Core.Path.{◌≡◌}
use lib.ListN.{length}
use Rattle.models.specs.BuildingLaws.{LinkedAt}
use Rattle.text_laws.specs.Loops.{Passed}
use Rattle.models.proofs.automata.link.Given as goal

abbrev pub invariant-loop-j : goal.invariant-loop-j
invariant-loop-j l = (length l.predecessors ≡ length l.initial.predecessors) × Passed (LinkedAt l.initial.predecessors l.lasts l.firsts) 0 l.initial.predecessors l.j l.predecessors
