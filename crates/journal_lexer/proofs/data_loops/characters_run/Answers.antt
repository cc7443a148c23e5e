-- `characters_run` meets its contract: each entity moves the place and what is saved, and plain bytes the place.
use Rattle.std.proofs.Common.{arith}
use Rattle.journal_lexer.specs.data_loops.Characters.{passed_first, passed-again, end-past, end-inside, plain-after}
use Rattle.journal_lexer.specs.declared.state.Event.TheVariants.{Quiet}
use Rattle.journal_lexer.specs.declared.state.Mode.TheVariants.{Solid}
use Rattle.journal_lexer.proofs.Tests.{mode-no-other, event-no-other}
use Rattle.journal_lexer.proofs.data_loops.characters_run.Goals as goal

pub loop-next-init : goal.loop-next-init
loop-next-init c =
    passed_first c.requires (mode-no-other c.args.l.mode Solid c.if-ne.ensures) (event-no-other c.args.l.event Quiet c.if-ne-2.ensures) c.plain_end-at.ensures

pub plain_from-at-requires : goal.plain_from-at-requires
plain_from-at-requires c = end-inside c.loop-next.invariant c.in-Some.ensures

pub loop-next-smaller : goal.loop-next-smaller
loop-next-smaller c =
    let now = c.loop-next.invariant in
    omega (arith, end-past now c.in-Some.ensures, end-inside now c.in-Some.ensures, plain-after c.plain_from-at.ensures)

pub loop-next-preserved : goal.loop-next-preserved
loop-next-preserved c = passed-again c.loop-next.invariant c.in-Some.ensures c.plain_from-at.ensures
