-- `rare_run` meets its contract: from the loop's start to each turn the code goes as the definition goes.
use Rattle.journal_lexer.specs.loop_laws.Turns.{turn-next}
use Rattle.journal_lexer.specs.tag_loops.Modes.{rare-lasts}
use Rattle.journal_lexer.proofs.tag_loops.rare_run.Goals as goal

pub loop-s-preserved : goal.loop-s-preserved
loop-s-preserved c =
    turn-next c.loop-s.invariant c.loop-s-test.true (c.type_inv.t _).fits (rare-lasts _ (c.is_rare.ensures.0 c.if-is_rare.true)) c.step-s.ensures
