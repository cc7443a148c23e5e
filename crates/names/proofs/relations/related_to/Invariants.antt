-- `related_to`: those of the elements that the loop has passed.
use Rattle.std.proofs.Common.{◌≡◌}
use Rattle.names.specs.Sets.{member}
use Rattle.names.specs.closures.Relations.{related_to}
use Rattle.schema_spec.specs.Names.{Name}
use Rattle.names.proofs.relations.related_to.Given as goal

abbrev pub invariant-loop-i : goal.invariant-loop-i
invariant-loop-i l = (n : Name) → member l.all n ≡ related_to l.i l.images l.s n
