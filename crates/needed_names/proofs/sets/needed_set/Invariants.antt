-- `needed_set`: what the paths that the loop has passed need.
use Rattle.std.proofs.Common.{◌≡◌}
use Rattle.names.specs.Sets.{NamesOf, set_in}
use Rattle.names.specs.relations.Relations.{RelationsOf}
use Rattle.needed_names.specs.paths.Laws.{needed_before}
use Rattle.schema_spec.specs.Names.{names_of, within}
use Rattle.schema_spec.specs.Schemas.{Schema}
use Rattle.needed_names.proofs.sets.needed_set.Given as goal

abbrev pub invariant-loop-i : goal.invariant-loop-i
invariant-loop-i l = (s : Schema) → RelationsOf s l.relations → NamesOf s l.all → set_in s l.needed ≡ within (names_of s) (needed_before l.paths.steps l.paths.conditions l.paths.paths s l.i)
