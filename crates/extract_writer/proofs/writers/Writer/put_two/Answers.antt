-- `put_two` meets its contract: the high byte, then the low one.
use mathlib.Core.Path.{refl}
use native.Mathlib.Omega.{arith}
use Rattle.extract_writer.specs.writers.Writers.{puts-then, puts-as, puts-length}
use Rattle.extract_writer.proofs.writers.Writer.put_two.Goals as goal

pub put-requires-2 : goal.put-requires-2
put-requires-2 c = omega (arith, c.put.ensures.after, puts-length c.put.ensures)

pub returns : goal.returns
returns c = puts-as (rw c.to_be_bytes.ensures refl) (puts-then c.put.ensures c.put-2.ensures)
