-- `mode_step` meets its contract: one byte, in its mode.
use Rattle.std.proofs.Common.{sym, rules}
use denote.Enum.Bare.{same_true}
use Rattle.journal_lexer.specs.contracts.state.Mode.{the_type}
use Rattle.journal_lexer.specs.loop_laws.Turns.{byte-handed, byte-quiet}
use Rattle.journal_lexer.proofs.mode_loops.mode_step.Goals as goal

pub returns-then-eq : goal.returns-then-eq
returns-then-eq g c =
    byte-quiet c.requires.ready c.if-l-t.true (c.type_inv.t _).fits c.requires.quiet (same_true the_type (search rules) _ _ (sym c.if-eq.ensures))
    (c.requires.reads _ _ _ _ _ _ (byte-handed c.requires.ready c.if-l-t.true (c.type_inv.t _).fits) c.byte.ensures)
