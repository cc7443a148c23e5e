-- `set_of`: the elements passed are in the set, the others are still to come.
use Rattle.std.proofs.Common.{◌||◌, ◌≡◌, drop}
use Rattle.compiled_schema.specs.entry_parts.Entries.{is_one_of}
use Rattle.names.specs.Sets.{member}
use Rattle.schema_spec.specs.Names.{Name}
use Rattle.compiled_schema.proofs.entry_parts.set_of.Given as goal

abbrev pub invariant-loop-e : goal.invariant-loop-e
invariant-loop-e l = (n : Name) → (member l.set n || is_one_of (drop l.e-index l.elements) n) ≡ is_one_of l.elements n
