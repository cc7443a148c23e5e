-- `related_to` meets its contract: the loop has passed all elements.
use Rattle.std.proofs.Common.{ℕ, ap, ◌∙◌, arith}
use Rattle.names.specs.closures.Relations.{related_to}
use Rattle.names.proofs.relations.related_to.Goals as goal

pub returns : goal.returns
returns c few n = c.loop-i.invariant n ∙ ap (λ (k : ℕ). related_to k c.args.images.now c.args.s n) (omega (arith, few))
