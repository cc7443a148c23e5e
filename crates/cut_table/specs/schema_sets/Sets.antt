-- What cutting takes from a schema.
use Rattle.std.specs.Prelude.{◌≤◌, length}
use Rattle.cut_table.specs.declared.schema_sets.SchemaSets.{SchemaSets}
use Rattle.names.specs.Sets.{NamesOf}
use Rattle.schema_spec.specs.Schemas.{Schema}
use Rattle.schema_spec.specs.Types.{types_of}
use Rattle.table_laws.specs.passes.Codes.{HeldWords}
use Rattle.text_spec.specs.Limits.{max_declarations}

-- the names that each element holds, and all names
pub record SetsOf (s : Schema) (x : SchemaSets) : Type 0 where
  pub few : length s ≤ max_declarations
  pub words : HeldWords (types_of s) x.words
  pub names : NamesOf s x.all

-- the sets are those of some schema
pub record OfSchema (x : SchemaSets) : Type 0 where
  pub schema : Schema
  pub sets : SetsOf schema x
