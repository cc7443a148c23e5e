-- `entity_end` meets its contract: an entity that stands whole, or none.
use Rattle.journal_lexer.specs.data_loops.Characters.{entity-end}
use Rattle.journal_lexer.proofs.data_loops.entity_end.Goals as goal

pub returns : goal.returns
returns c = entity-end c.if-t-at.false c.if-t-at-ne38.false c.in_ok-c.ensures
