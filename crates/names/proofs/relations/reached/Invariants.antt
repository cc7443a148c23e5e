-- `reached`: after k rounds the ways go through the first k elements.
use Rattle.names.specs.closures.Relations.{NonePast}
use Rattle.names.specs.closures.Rounds.{Reachability}
use Rattle.names.proofs.relations.reached.Given as goal

abbrev pub invariant-loop-k : goal.invariant-loop-k
invariant-loop-k l = NonePast l.count l.«holds» → Reachability l.«holds» l.k l.images × NonePast l.count l.images
