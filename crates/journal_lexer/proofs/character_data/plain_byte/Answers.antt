-- `plain_byte` meets its contract: by the kind of the byte.
use Rattle.std.proofs.Common.{sym, ◌∙◌}
use Rattle.journal_lexer.specs.character_data.Laws.{plain-opens, plain-entity, plain-bracket, plain-noted, plain-same}
use Rattle.journal_lexer.proofs.character_data.plain_byte.Goals as goal

pub returns-then-is_plain : goal.returns-then-is_plain
returns-then-is_plain c = plain-same c.requires (sym c.is_plain.ensures ∙ c.if-is_plain.true) c.goes.ensures

pub returns-in-Less : goal.returns-in-Less
returns-in-Less c = plain-opens c.requires c.in-Less.is c.tag_opens.ensures.1 c.tag_opens.ensures.0

pub returns-in-Ampersand : goal.returns-in-Ampersand
returns-in-Ampersand c = plain-entity c.requires c.in-Ampersand.is c.entity_begins.ensures.0 c.entity_begins.ensures.1

pub returns-in-Bracket : goal.returns-in-Bracket
returns-in-Bracket c = plain-bracket c.requires c.in-Bracket.is c.goes-in-Bracket.ensures

pub returns-in_default : goal.returns-in_default
returns-in_default c =
    plain-noted c.requires c.in_default.not-Less c.in_default.not-Ampersand c.in_default.not-Bracket c.goes-in_default.ensures c.note_foreign.ensures
