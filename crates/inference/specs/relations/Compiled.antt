-- The relations in a compiled schema are those of the schema, and give its names.
use Rattle.std.specs.Prelude.{List, ◌≡◌, ℕ, length}
use Rattle.compiled_paths.specs.Paths.{paths_in}
use Rattle.compiled_paths.specs.declared.CompiledPaths.{CompiledPaths}
use Rattle.compiled_schema.specs.Compiled.{CompiledOf}
use Rattle.compiled_schema.specs.declared.CompiledSchema.{CompiledSchema}
use Rattle.inference_spec.specs.Needed.{needed, needed_word}
use Rattle.names.specs.Sets.{NamesOf, Known, set_in}
use Rattle.names.specs.closures.Schemas.{RelationOf}
use Rattle.names.specs.declared.NameSet.{NameSet}
use Rattle.names.specs.relations.Relations.{RelationsOf}
use Rattle.schema_laws.specs.Accepted.{accepted-length, accepted-filled, accepted-closed}
use Rattle.schema_spec.specs.Reading.{read_schema}
use Rattle.schema_spec.specs.Schemas.{Schema}
use Rattle.schema_spec.specs.Types.{holds, types_of}
use Rattle.text_spec.specs.Refusals.{accepted}

module _ (text : List ℕ) (s : Schema) (read : read_schema text ≡ accepted s) (t : CompiledSchema) (made : CompiledOf text s t) where
  -- the relations of the schema
  pub compiled-relations : RelationsOf s t.relations
  compiled-relations =
      record {
        small = accepted-length text s read;
        full = accepted-filled text s read;
        counted = made.counted;
        closed = accepted-closed text s read;
        holding = made.held;
        below = made.beneath;
      }

  -- `names::relations::Relations::names`
  pub compiled-names : (all : NameSet) → ((q : Schema) → RelationOf (holds q) t.relations.«holds» → t.relations.count ≡ length q → NamesOf q all) → NamesOf s all
  compiled-names all h = h s made.held made.counted

  module _ (bundle : CompiledPaths) where
    -- `needed_names::needed_set`
    pub compiled-needed : (r : NameSet)
        → ((q : Schema) → RelationsOf q t.relations → (set_in q r ≡ needed (types_of q) (paths_in bundle)) × Known q r)
        → (set_in s r ≡ needed (types_of s) (paths_in bundle)) × Known s r
    compiled-needed r h = h s compiled-relations

    -- its 64 bits
    pub compiled-needed-word : (word : ℕ)
        → ((q : Schema) → RelationsOf q t.relations → word ≡ needed_word (types_of q) (paths_in bundle))
        → word ≡ needed_word (types_of s) (paths_in bundle)
    compiled-needed-word word h = h s compiled-relations
