-- `twice`: none of the first i names is declared before it.
use Rattle.std.proofs.Common.{◌≡◌, [], drop}
use Rattle.schema_reader.specs.declared_names.Names.{names_before, twice_at}
use Rattle.text_spec.specs.Lists.{first}
use Rattle.schema_reader.proofs.declared_names.twice.Given as goal

abbrev pub invariant-loop-i : goal.invariant-loop-i
invariant-loop-i l = first (twice_at l.s [] l.names) ≡ first (twice_at l.s (names_before l.s l.names l.i) (drop l.i l.names))
