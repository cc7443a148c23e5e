-- `Relations::names`: the names of the elements that the loop has passed.
use Rattle.std.proofs.Common.{◌≡◌}
use Rattle.names.specs.Sets.{member}
use Rattle.names.specs.relations.Names.{of_elements_before}
use Rattle.schema_spec.specs.Names.{Name}
use Rattle.names.proofs.relations.Relations.names.Given as goal

abbrev pub invariant-loop-i : goal.invariant-loop-i
invariant-loop-i l = (n : Name) → member l.all n ≡ of_elements_before l.self.«holds» l.i n
