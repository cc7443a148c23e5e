-- `plain_end` meets its contract: each byte that is passed is plain.
use Rattle.std.proofs.Common.{refl, sym, ◌∙◌}
use Rattle.journal_lexer.specs.data_loops.Characters.{PlainBytes, more}
use Rattle.journal_lexer.proofs.data_loops.plain_end.Goals as goal

pub loop-at-init : goal.loop-at-init
loop-at-init c = PlainBytes.none refl

pub loop-at-preserved : goal.loop-at-preserved
loop-at-preserved c = more c.loop-at.at c.loop-at.invariant c.loop-at-test.true (c.type_inv.t _).fits (sym c.is_plain.ensures ∙ c.if-not-is_plain.false) refl
