-- `entity_byte` meets its contract: by what may still come.
use Rattle.std.proofs.Common.{sym, ◌∙◌, rules}
use denote.Enum.Bare.{same_true, same_false}
use Rattle.journal_lexer.specs.character_data.EntityLaws.{entity-past, entity-stop, entity-more}
use Rattle.journal_lexer.specs.contracts.entities.EntityRest.{the_type}
use Rattle.journal_lexer.proofs.character_data.entity_byte.Goals as goal

pub returns-in_default : goal.returns-in_default
returns-in_default c = entity-stop c.requires (sym c.after.ensures ∙ c.in_default.is) c.stop.ensures.0 c.stop.ensures.1

pub returns-then-eq : goal.returns-then-eq
returns-then-eq c =
    entity-past c.requires (sym c.after.ensures ∙ c.in-Some.is) (same_true the_type (search rules) _ _ (sym c.if-eq.ensures)) c.goes.ensures
    c.note_foreign.ensures c.entity_ends.ensures

pub returns : goal.returns
returns c =
    entity-more c.requires (sym c.after.ensures ∙ c.in-Some.is) (same_false the_type _ _ (sym c.if-eq.ensures)) c.enters.ensures c.note_foreign.ensures
