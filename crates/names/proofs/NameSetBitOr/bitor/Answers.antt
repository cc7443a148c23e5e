-- The union of two sets meets its contract, by a law of each bit.
use mathlib.Core.Bool.{◌||◌}
use lib.Bits.{bit_or}
use Rattle.names.proofs.Words.{on-names}
use Rattle.names.specs.bits.Bits.{bit-or}
use Rattle.names.proofs.NameSetBitOr.bitor.Goals as goal

pub returns : goal.returns
returns c = on-names (λ a b. bit_or a b) (λ x y. x || y) bit-or c.args.self c.args.other
