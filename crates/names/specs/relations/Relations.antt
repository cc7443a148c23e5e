-- What relations belong to a schema.
use Rattle.std.specs.Prelude.{◌≡◌, ◌<◌, ◌≤◌, length}
use Rattle.names.specs.closures.Schemas.{RelationOf}
use Rattle.names.specs.declared.relations.Relations.{Relations}
use Rattle.schema_laws.specs.Closure.{Closed}
use Rattle.schema_spec.specs.Schemas.{Schema}
use Rattle.schema_spec.specs.Types.{holds, types_of, is_below}
use Rattle.text_spec.specs.Limits.{max_declarations}

-- how many elements a schema has, what each of them holds and what is below it
pub record RelationsOf (s : Schema) (r : Relations) : Type 0 where
  pub small : length s ≤ max_declarations
  pub full : 0 < length s
  pub counted : r.count ≡ length s
  pub closed : Closed s
  pub holding : RelationOf (holds s) r.«holds»
  pub below : RelationOf (is_below (types_of s)) r.below
