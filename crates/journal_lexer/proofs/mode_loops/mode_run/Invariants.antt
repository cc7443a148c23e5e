-- `mode_run` meets its contract: from the loop's start to each turn the code goes as the definition goes.
use Prim.Native.Nat.{◌-◌}
use lib.ListN.{length}
use Rattle.journal_lexer.specs.loop_laws.Turns.{Turn}
use Rattle.journal_lexer.proofs.mode_loops.mode_run.Given as goal

abbrev pub invariant-loop-s : goal.invariant-loop-s
invariant-loop-s g l = Turn l.t l.kinds l.initial.s l.initial.places l.s l.places

abbrev pub decreases-loop-s : goal.decreases-loop-s
decreases-loop-s g l = length l.t - l.s.place
