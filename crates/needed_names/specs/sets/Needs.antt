-- What compiled paths need under a compiled schema.
use Rattle.std.specs.Prelude.{◌≡◌}
use Rattle.compiled_paths.specs.Paths.{paths_in}
use Rattle.compiled_paths.specs.declared.CompiledPaths.{CompiledPaths}
use Rattle.compiled_schema.specs.declared.CompiledSchema.{CompiledSchema}
use Rattle.inference_spec.specs.Needed.{needed}
use Rattle.names.specs.Sets.{Known, set_in}
use Rattle.names.specs.declared.NameSet.{NameSet}
use Rattle.names.specs.relations.Relations.{RelationsOf}
use Rattle.schema_spec.specs.Schemas.{Schema}
use Rattle.schema_spec.specs.Types.{types_of}

-- the set has the names that the paths need under each schema that has this compiled form, and no other
pub record NeededIn (t : CompiledSchema) (paths : CompiledPaths) (x : NameSet) : Type 0 where
  pub under : (s : Schema) → RelationsOf s t.relations → (set_in s x ≡ needed (types_of s) (paths_in paths)) × Known s x
