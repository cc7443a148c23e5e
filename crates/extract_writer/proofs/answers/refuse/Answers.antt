-- `refuse` meets its contract: the bytes cleared.
use Rattle.std.proofs.Common.{Err, ap}
use Rattle.extract_writer.specs.answers.Answers.{refused-by-1}
use Rattle.extract_writer.proofs.answers.refuse.Goals as goal

pub returns : goal.returns
returns c = refused-by-1 _ _ _ c.fill_from.ensures (ap Err c.of.ensures)
