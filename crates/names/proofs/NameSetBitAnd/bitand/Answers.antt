-- What two sets have in common meets its contract, by a law of each bit.
use mathlib.Core.Bool.{◌&&◌}
use lib.Bits.{bit_and}
use Rattle.names.proofs.Words.{on-names}
use Rattle.names.specs.bits.Bits.{bit-and}
use Rattle.names.proofs.NameSetBitAnd.bitand.Goals as goal

pub returns : goal.returns
returns c = on-names (λ a b. bit_and a b) (λ x y. x && y) bit-and c.args.self c.args.other
