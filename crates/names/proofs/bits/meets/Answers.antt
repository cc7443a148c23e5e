-- `names::bits::meets` meets its contract.
use native.Mathlib.Omega.{arith}
use Rattle.names.specs.bits.Bits.{meet-bits}
use Rattle.names.proofs.bits.meets.Goals as goal

pub returns : goal.returns
returns c = meet-bits c.args.a c.args.b (omega arith) (omega arith)
