-- The cells of an element's own positions are its model's position automaton, and there are cells for all.
use Rattle.std.specs.Prelude.{List, ◌≡◌, ℕ, ◌<◌, length, take}
use Rattle.compiled_schema.specs.declared.entry_parts.ElementEntry.{ElementEntry}
use Rattle.compiled_schema.specs.entries.Entries.{entry_at, EntriesOf}
use Rattle.compiled_schema.specs.entry_parts.Entries.{ends_in}
use Rattle.compiled_schema.specs.entry_parts.EntryLaws.{entry-automaton, entry-room}
use Rattle.models.specs.Automaton.{AutomatonOf}
use Rattle.schema_spec.specs.Models.{Particle, children}
use Rattle.schema_spec.specs.Schemas.{Schema, content_at}
use Rattle.text_spec.specs.Limits.{max_declarations, max_model_names}

module _ (s : Schema) (entries : List ElementEntry) (made : EntriesOf s entries) (a : ℕ) (l : a < max_declarations) (p : Particle ℕ) (e : content_at s a ≡ children p) where
  abbrev here : ElementEntry
  here = entry_at entries a

  pub entries-automaton : AutomatonOf p (ends_in here.content) (take here.size here.elements) (take here.size here.predecessors)
  entries-automaton = entry-automaton (made.each a l) p e

-- there are cells for every position of every element
module _ (s : Schema) (entries : List ElementEntry) (made : EntriesOf s entries) where
  pub entries-room : (a : ℕ) → a < max_declarations → (length (entry_at entries a).elements ≡ max_model_names) × (length (entry_at entries a).predecessors ≡ max_model_names)
  entries-room a l = entry-room (made.each a l)
