-- `spell` meets its contract: the first n bytes of the keyword stand at `at`.
use Rattle.std.proofs.Common.{arith}
use Rattle.text.proofs.scanning.spell.Goals as goal

pub loop-n-init : goal.loop-n-init
loop-n-init c = record { fits = omega arith; same = λ k l. absurd (omega arith) }

pub returns : goal.returns
returns c = record { says = (omega arith, record { fits = (let f = c.loop-n.invariant.fits in omega arith); same = λ k l. c.loop-n.invariant.same k (omega arith) }) }
