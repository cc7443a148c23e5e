-- `mode_run` meets its contract: from the loop's start to each turn the code goes as the definition goes.
use Rattle.std.proofs.Common.{sym, rules}
use denote.Enum.Bare.{same_true}
use Rattle.journal_lexer.specs.contracts.state.Mode.{the_type}
use Rattle.journal_lexer.specs.loop_laws.Turns.{turn-handed, mode-next}
use Rattle.journal_lexer.proofs.mode_loops.mode_run.Goals as goal

pub loop-s-preserved : goal.loop-s-preserved
loop-s-preserved g c =
    mode-next c.loop-s.invariant c.loop-s-test.true (c.type_inv.t _).fits (same_true the_type (search rules) _ _ (sym c.if-eq.ensures))
    (c.requires.reads _ _ _ _ _ _ (turn-handed c.loop-s.invariant c.loop-s-test.true (c.type_inv.t _).fits) c.byte-s.ensures) c.requires.lasting
