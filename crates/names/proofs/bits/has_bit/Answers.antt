-- `names::bits::has_bit` meets its contract: at 64 and past it, a word has no bit.
use mathlib.Core.Path.{sym}
use native.Mathlib.Omega.{arith}
use Rattle.names.specs.bits.Bits.{bit_past}
use Rattle.names.proofs.bits.has_bit.Goals as goal

pub returns-else-i-lt64 : goal.returns-else-i-lt64
returns-else-i-lt64 c = sym (bit_past 64 c.args.word c.args.i (omega arith) (omega arith))
