-- `Relations::names` meets its contract.
use mathlib.Core.Path.{◌∙◌}
use native.Mathlib.Omega.{arith}
use Rattle.names.specs.relations.Names.{before-all}
use Rattle.names.proofs.relations.Relations.names.Goals as goal

pub returns : goal.returns
returns c = λ s relation e n. c.loop-i.invariant n ∙ before-all s c.args.self.now.«holds» relation c.loop-i.i (omega (arith, e)) n
