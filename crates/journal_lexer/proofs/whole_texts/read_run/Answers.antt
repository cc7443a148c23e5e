-- `read_run` meets its contract: each turn reads one byte of the run, the rest of the entity that it begins, and the characters after it.
use Rattle.std.proofs.Common.{true≢false, sym, ◌∙◌}
use Rattle.journal_lexer.specs.whole_texts.Laws.{fresh-ready, run-first, run-over, run-ended, run-handed, run-falls, run-next, run_on, run-still-falls}
use Rattle.journal_lexer.proofs.whole_texts.read_run.Goals as goal

pub mode_step-s-requires-clause-ready : goal.mode_step-s-requires-clause-ready
mode_step-s-requires-clause-ready c = (fresh-ready c.requires c.initial-first.ensures).0

pub mode_step-s-requires-clause-quiet : goal.mode_step-s-requires-clause-quiet
mode_step-s-requires-clause-quiet c = (fresh-ready c.requires c.initial-first.ensures).1

pub loop-s-init : goal.loop-s-init
loop-s-init c = run-first c.requires c.initial-first.ensures c.mode_step-s.ensures

pub step-next-requires : goal.step-next-requires
step-next-requires c = run-handed c.loop-s.invariant (c.in_run.ensures.0 c.if-in_run.true) c.loop-s-test.true (c.type_inv.text _).fits

pub entity_run-entity-requires : goal.entity_run-entity-requires
entity_run-entity-requires c =
    (run-next c.loop-s.invariant (c.in_run.ensures.0 c.if-in_run.true) c.loop-s-test.true (c.type_inv.text _).fits c.step-next.ensures).ready

pub characters_run-s-requires : goal.characters_run-s-requires
characters_run-s-requires c =
    (run_on c.entity_run-entity.ensures
    (run-next c.loop-s.invariant (c.in_run.ensures.0 c.if-in_run.true) c.loop-s-test.true (c.type_inv.text _).fits c.step-next.ensures)).ready

pub loop-s-smaller : goal.loop-s-smaller
loop-s-smaller c =
    run-still-falls c.characters_run-s.ensures _
    (run-still-falls c.entity_run-entity.ensures _
    (run-falls c.loop-s.invariant (c.in_run.ensures.0 c.if-in_run.true) c.loop-s-test.true (c.type_inv.text _).fits c.step-next.ensures))

pub loop-s-preserved : goal.loop-s-preserved
loop-s-preserved c =
    run_on c.characters_run-s.ensures
    (run_on c.entity_run-entity.ensures
    (run-next c.loop-s.invariant (c.in_run.ensures.0 c.if-in_run.true) c.loop-s-test.true (c.type_inv.text _).fits c.step-next.ensures))

pub returns-else-in_run : goal.returns-else-in_run
returns-else-in_run c = run-over c.loop-s.invariant (λ m t. true≢false (sym (c.in_run.ensures.1 t) ∙ c.if-in_run.false))

pub returns-after-loop-s : goal.returns-after-loop-s
returns-after-loop-s c = run-ended c.loop-s.invariant c.loop-s-test.false
