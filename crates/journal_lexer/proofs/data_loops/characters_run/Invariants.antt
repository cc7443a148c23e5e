-- `characters_run` meets its contract: each entity moves the place and what is saved, and plain bytes the place.
use Prim.Native.Nat.{◌-◌}
use lib.ListN.{length}
use Rattle.journal_lexer.specs.data_loops.Characters.{RunSoFar}
use Rattle.journal_lexer.proofs.data_loops.characters_run.Given as goal

abbrev pub invariant-loop-next : goal.invariant-loop-next
invariant-loop-next l = RunSoFar l.t l.kinds l.l l.places l.at l.saved

abbrev pub decreases-loop-next : goal.decreases-loop-next
decreases-loop-next l = length l.t - l.at
