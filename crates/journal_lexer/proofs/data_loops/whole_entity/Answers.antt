-- `whole_entity` meets its contract: an entity that stands whole is passed at once.
use Rattle.std.proofs.Common.{arith, refl}
use Rattle.journal_lexer.specs.data_loops.Entities.{whole-bounds, whole-advance}
use Rattle.journal_lexer.specs.declared.entities.EntityRest.TheVariants.{All}
use Rattle.journal_lexer.specs.declared.state.Event.TheVariants.{Quiet}
use Rattle.journal_lexer.specs.declared.state.Mode.TheVariants.{InEntity}
use Rattle.journal_lexer.proofs.Tests.{mode-no-other, event-no-other, rest-no-other}
use Rattle.journal_lexer.proofs.data_loops.whole_entity.Goals as goal

pub entity_ends-requires : goal.entity_ends-requires
entity_ends-requires c =
    let a = c.args.l in
    let inside =
    (whole-bounds c.requires (mode-no-other a.mode InEntity c.if-ne.ensures) (event-no-other a.event Quiet c.if-ne-2.ensures)
    (rest-no-other a.rest All c.if-ne-3.ensures) c.in-Some.ensures).1
    in
    omega (arith, inside, c.requires.short)

pub returns : goal.returns
returns c =
    let a = c.args.l in
    whole-advance c.requires (mode-no-other a.mode InEntity c.if-ne.ensures) (event-no-other a.event Quiet c.if-ne-2.ensures)
    (rest-no-other a.rest All c.if-ne-3.ensures) c.in-Some.ensures refl c.entity_ends.ensures
