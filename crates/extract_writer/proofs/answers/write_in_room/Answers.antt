-- `write_in_room` meets its contract: the bytes, or 18.
use Rattle.std.proofs.Common.{Err, refl, ap}
use Rattle.extract_writer.specs.answers.Answers.{too_few, enough}
use Rattle.extract_writer.proofs.answers.write_in_room.Goals as goal

pub write_table-size-requires : goal.write_table-size-requires
write_table-size-requires c = c.requires

pub returns-then-room-size : goal.returns-then-room-size
returns-then-room-size c = too_few _ _ _ _ c.write_table-size.ensures _ c.if-room-size.true (ap Err c.of.ensures)

pub returns : goal.returns
returns c = enough _ _ _ _ c.write_table-size.ensures _ c.if-room-size.false refl
