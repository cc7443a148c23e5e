-- `entity_at` meets its contract: the character of the entity, or none where `&` stands for itself.
use Rattle.journal_lexer.specs.whole_entities.Entities.{at-entity, at-none}
use Rattle.journal_lexer.proofs.whole_entities.entity_at.Goals as goal

pub returns-then-character-i : goal.returns-then-character-i
returns-then-character-i c = at-none c.entity_after-character.ensures c.if-character-i.true

pub returns : goal.returns
returns c = at-entity c.entity_after-character.ensures c.if-character-i.false
