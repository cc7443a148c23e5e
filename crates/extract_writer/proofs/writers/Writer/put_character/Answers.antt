-- `put_character` meets its contract: the character of an entity, or the `&`.
use Rattle.extract_writer.specs.decoded_texts.Decoded.{entity-put}
use Rattle.extract_writer.proofs.writers.Writer.put_character.Goals as goal

pub returns : goal.returns
returns c = entity-put _ _ c.requires.at.0 c.requires.at.1 _ _ c.entity_after-character.ensures c.put.ensures
