-- `round` meets its contract: each image has had the round.
use Rattle.std.proofs.Common.{arith}
use Rattle.names.specs.closures.Rounds.{round-all}
use Rattle.names.proofs.relations.round.Goals as goal

pub returns : goal.returns
returns c past = round-all c.args.images.now c.args.k c.loop-i.i c.loop-i.images (λ a b l. past a b (omega arith)) c.loop-i.invariant
