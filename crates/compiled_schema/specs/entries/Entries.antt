-- What is known of each element of a schema.
use Rattle.std.specs.Prelude.{List, ℕ, ◌<◌, get_or}
use Rattle.compiled_schema.specs.declared.entries.Elements.{Elements}
use Rattle.compiled_schema.specs.declared.entry_parts.ElementEntry.{ElementEntry}
use Rattle.compiled_schema.specs.entry_parts.Entries.{EntryOf, empty_entry}
use Rattle.names.specs.closures.Schemas.{RelationOf}
use Rattle.schema_spec.specs.Schemas.{Schema, content_at}
use Rattle.schema_spec.specs.Types.{holds}
use Rattle.text_spec.specs.Limits.{max_declarations}

abbrev pub entry_at : List ElementEntry → ℕ → ElementEntry
entry_at entries a = get_or entries a empty_entry

-- The entries of all elements. An element past the last has the entry of EMPTY: zeros.
pub record EntriesOf (s : Schema) (entries : List ElementEntry) : Type 0 where
  pub each : (a : ℕ) → a < max_declarations → EntryOf (content_at s a) (entry_at entries a)

-- with the names that each element holds
pub record ElementsOf (s : Schema) (t : Elements) : Type 0 where
  pub entries : EntriesOf s t.entries
  pub held : RelationOf (holds s) t.«holds»
