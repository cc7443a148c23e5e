-- `read_run` meets its contract: each turn reads one byte of the run, the rest of the entity that it begins, and the characters after it.
use Prim.Native.Nat.{◌-◌}
use lib.ListN.{length}
use Rattle.journal_lexer.specs.whole_texts.Runs.{Begun}
use Rattle.journal_lexer.proofs.whole_texts.read_run.Given as goal

abbrev pub invariant-loop-s : goal.invariant-loop-s
invariant-loop-s l = Begun l.text l.kinds l.s l.places

abbrev pub decreases-loop-s : goal.decreases-loop-s
decreases-loop-s l = length l.text - l.s.place
