-- `wanted_by_some`: what the names with codes below c want.
use Rattle.std.proofs.Common.{◌≡◌}
use mathlib.Core.List.{Memᴰ}
use Rattle.names.specs.Sets.{member, Known}
use Rattle.needed_names.specs.asked.Asked.{AskedOf, asked_alternatives}
use Rattle.needed_names.specs.conditions.Conditions.{wants_in}
use Rattle.needed_names.specs.conditions.Laws.{wanted_below}
use Rattle.schema_spec.specs.Names.{Name, names_of}
use Rattle.schema_spec.specs.Schemas.{Schema}
use Rattle.needed_names.proofs.conditions.wanted_by_some.Given as goal

abbrev pub invariant-loop-c : goal.invariant-loop-c
invariant-loop-c l = (s : Schema) (r : AskedOf s l.asked) → Known s l.g → (m : Name) → Memᴰ m (names_of s) → member l.wanted m ≡ wanted_below s r.relations.small (wants_in s l.k (asked_alternatives l.asked l.n l.i)) l.g l.c m
