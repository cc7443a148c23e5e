-- `related_from`: the images of the elements that the loop has passed.
use Rattle.std.proofs.Common.{◌≡◌}
use Rattle.names.specs.Sets.{member}
use Rattle.names.specs.closures.Relations.{related_from}
use Rattle.schema_spec.specs.Names.{Name}
use Rattle.names.proofs.relations.related_from.Given as goal

abbrev pub invariant-loop-i : goal.invariant-loop-i
invariant-loop-i l = (b : Name) → member l.all b ≡ related_from l.i l.images l.s b
