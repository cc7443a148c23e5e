-- `put_element` meets its contract: the head and the element.
use native.Mathlib.Omega.{arith}
use Rattle.extract_writer.specs.writers.Writers.{puts-then, puts-length}
use Rattle.extract_writer.proofs.writers.Writer.put_element.Goals as goal

pub put-requires : goal.put-requires
put-requires c = omega (arith, c.put_head.ensures.after, puts-length c.put_head.ensures)

pub returns : goal.returns
returns c = puts-then c.put_head.ensures c.put.ensures
