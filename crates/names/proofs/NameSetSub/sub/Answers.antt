-- The difference of two sets meets its contract, by a law of each bit.
use Rattle.std.proofs.Common.{arith}
use Rattle.schema_spec.specs.Names.{element, text}
use Rattle.names.specs.bits.Bits.{bit-and-not}
use Rattle.names.proofs.NameSetSub.sub.Goals as goal

pub returns : goal.returns
returns c (element e) = bit-and-not c.args.self.elements c.args.other.elements e (omega arith) (omega arith)
returns c (text e) = bit-and-not c.args.self.texts c.args.other.texts e (omega arith) (omega arith)
