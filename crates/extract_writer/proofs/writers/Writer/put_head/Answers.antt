-- `put_head` meets its contract: the tag and three numbers.
use native.Mathlib.Omega.{arith}
use Rattle.extract_writer.specs.writers.Writers.{puts-then, puts-length}
use Rattle.extract_writer.proofs.writers.Writer.put_head.Goals as goal

pub put_two-requires : goal.put_two-requires
put_two-requires c = omega (arith, c.put.ensures.after, puts-length c.put.ensures)

pub put_two-requires-2 : goal.put_two-requires-2
put_two-requires-2 c = omega (arith, c.put.ensures.after, puts-length c.put.ensures, c.put_two.ensures.after, puts-length c.put_two.ensures)

pub put_two-requires-3 : goal.put_two-requires-3
put_two-requires-3 c =
    omega
    (arith, c.put.ensures.after, puts-length c.put.ensures, c.put_two.ensures.after, puts-length c.put_two.ensures, c.put_two-2.ensures.after, puts-length c.put_two-2.ensures)

pub returns : goal.returns
returns c = puts-then (puts-then (puts-then c.put.ensures c.put_two.ensures) c.put_two-2.ensures) c.put_two-3.ensures
