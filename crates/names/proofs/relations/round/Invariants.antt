-- `round`: the images that the loop has passed have had the round.
use Rattle.names.specs.Sets.{nothing}
use Rattle.names.specs.closures.Rounds.{AfterRound}
use Rattle.text_laws.specs.Loops.{Passed}
use Rattle.names.proofs.relations.round.Given as goal

abbrev pub invariant-loop-i : goal.invariant-loop-i
invariant-loop-i l = Passed (AfterRound l.initial.images l.k) nothing l.initial.images l.i l.images
