-- `kept_by_some`: the names with codes below c that are kept.
use Rattle.std.proofs.Common.{◌≡◌, ◌&&◌, ltb}
use mathlib.Core.List.{Memᴰ}
use Rattle.names.specs.Sets.{member}
use Rattle.needed_names.specs.asked.Asked.{AskedOf, asked_alternatives}
use Rattle.needed_names.specs.conditions.Conditions.{keeps_in}
use Rattle.schema_spec.specs.Names.{Name, names_of, code_of}
use Rattle.schema_spec.specs.Schemas.{Schema}
use Rattle.needed_names.proofs.conditions.kept_by_some.Given as goal

abbrev pub invariant-loop-c : goal.invariant-loop-c
invariant-loop-c l = (s : Schema) → AskedOf s l.asked → (m : Name) → Memᴰ m (names_of s) → member l.kept m ≡ (ltb (code_of m) l.c && (member l.e.types m && keeps_in s l.e.context (asked_alternatives l.asked l.n l.i) m))
