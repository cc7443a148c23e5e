-- `put_text` meets its contract: the head and the characters.
use native.Mathlib.Omega.{arith}
use Rattle.extract_writer.specs.fields.Fields.{text-puts}
use Rattle.extract_writer.specs.writers.Writers.{puts-length}
use Rattle.extract_writer.proofs.writers.Writer.put_text.Goals as goal

pub overflow_add-decoded : goal.overflow_add-decoded
overflow_add-decoded c = omega (arith, c.requires.short)

pub put_head-requires : goal.put_head-requires
put_head-requires c = omega (arith, c.requires.room)

pub put_characters-requires : goal.put_characters-requires
put_characters-requires c =
    record { spelt = c.requires.spelt; room = omega (arith, c.requires.room, c.put_head.ensures.after, puts-length c.put_head.ensures) }

pub returns : goal.returns
returns c = text-puts _ _ _ _ c.requires.spelt c.put_head.ensures c.put_characters.ensures
