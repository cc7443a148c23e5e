-- `put_plain` meets its contract: no bytes need no call.
use Rattle.std.specs.Prelude.{◌≡◌, length}
use Rattle.std.proofs.Common.{arith}
use Rattle.std.proofs.lemmas.Grind.{common_steps}
use Rattle.extract_writer.specs.writers.Writers.{puts-empty}
use Rattle.extract_writer.proofs.writers.Writer.put_plain.Goals as goal

pub returns-then-is_empty : goal.returns-then-is_empty
returns-then-is_empty c =
    let e : length c.args.bytes.now ≡ 0 = grind (arith, common_steps) in
    puts-empty c.args.bytes.now e
