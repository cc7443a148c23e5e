use Rattle.chains.proofs.tags.Loops.{Climbing}
use Rattle.chains.proofs.tags.ElementNames.chain_size.Given as goal

abbrev pub invariant-loop-r : goal.invariant-loop-r
invariant-loop-r l = Climbing l.self.sizes.now l.table.names.now l.table.parents.now l.row l.n l.r

abbrev pub decreases-loop-r : goal.decreases-loop-r
decreases-loop-r l = l.r
