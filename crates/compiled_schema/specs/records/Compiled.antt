-- Over the compiled form of an accepted schema text the code computes what the definitions say: the sets held, holding, below and above, the
-- element of a name, and what fits an element's model.
use Rattle.std.specs.Prelude.{Bool, List, map, ◌↔◌, ◌≡◌, ℕ, ◌<◌, T, length, take, Option}
use Rattle.std.proofs.Common.{◌∙◌, arith}
use Rattle.compiled_schema.specs.Compiled.{CompiledOf}
use Rattle.compiled_schema.specs.declared.CompiledSchema.{CompiledSchema}
use Rattle.compiled_schema.specs.declared.entry_parts.ElementEntry.{ElementEntry}
use Rattle.compiled_schema.specs.entries.Automata.{entries-automaton}
use Rattle.compiled_schema.specs.entries.Entries.{entry_at}
use Rattle.compiled_schema.specs.entry_parts.Entries.{ends_in}
use Rattle.inference_spec.specs.Types.{held_by, holding, all_below, all_above}
use Rattle.models.specs.Automaton.{AutomatonOf}
use Rattle.names.specs.Sets.{member, set_of}
use Rattle.names.specs.closures.Relations.{related_from, related_to}
use Rattle.names.specs.closures.Schemas.{holds-relating, below-relating, related_from-filter, related_to-filter}
use Rattle.names.specs.declared.NameSet.{NameSet}
use Rattle.schema_laws.specs.Accepted.{accepted-length, accepted-closed}
use Rattle.schema_spec.specs.Models.{Particle, children, Fits}
use Rattle.schema_spec.specs.Names.{Name, names_of}
use Rattle.schema_spec.specs.Reading.{read_schema}
use Rattle.schema_spec.specs.Schemas.{Schema, index_from, element_named, content_at}
use Rattle.schema_spec.specs.Types.{holds, types_of, is_below}
use Rattle.text.specs.lookup.Lookup.{found, element-by-place}
use Rattle.text_spec.specs.Refusals.{accepted}
use Rattle.text_spec.specs.Scans.{name_at}

abbrev entry : CompiledSchema → ℕ → ElementEntry
entry t a = entry_at t.entries a

module _ (text : List ℕ) (s : Schema) (read : read_schema text ≡ accepted s) (t : CompiledSchema) (made : CompiledOf text s t) where
  -- `names::related::related_from` and `related_to` on a set x
  module _ (x r : NameSet) where
    pub held-means-held_by : ((b : Name) → member r b ≡ related_from t.relations.count t.relations.«holds» x b) → set_of (names_of s) r ≡ held_by (types_of s) (set_of (names_of s) x)
    unfolding types_of
    held-means-held_by = related_from-filter s (accepted-length text s read) t.relations.count made.counted (holds s) (holds-relating s (accepted-closed text s read)) t.relations.«holds» made.held x r

    pub holding-means-holding : ((n : Name) → member r n ≡ related_to t.relations.count t.relations.«holds» x n) → set_of (names_of s) r ≡ holding (types_of s) (set_of (names_of s) x)
    unfolding types_of
    holding-means-holding = related_to-filter s (accepted-length text s read) t.relations.count made.counted (holds s) (holds-relating s (accepted-closed text s read)) t.relations.«holds» made.held x r

    pub below-means-all_below : ((b : Name) → member r b ≡ related_from t.relations.count t.relations.below x b) → set_of (names_of s) r ≡ all_below (types_of s) (set_of (names_of s) x)
    unfolding types_of
    below-means-all_below = related_from-filter s (accepted-length text s read) t.relations.count made.counted (is_below (types_of s)) (below-relating s (accepted-closed text s read)) t.relations.below made.beneath x r

    pub above-means-all_above : ((n : Name) → member r n ≡ related_to t.relations.count t.relations.below x n) → set_of (names_of s) r ≡ all_above (types_of s) (set_of (names_of s) x)
    unfolding types_of
    above-means-all_above = related_to-filter s (accepted-length text s read) t.relations.count made.counted (is_below (types_of s)) (below-relating s (accepted-closed text s read)) t.relations.below made.beneath x r

  -- `text::lookup::element_named` over the places of the names
  pub found-means-element_named : (name : List ℕ) (r : Option ℕ) → found r ≡ index_from 0 name (map (name_at text) (take t.relations.count t.names)) → found r ≡ element_named s name
  found-means-element_named name r e = e ∙ element-by-place text (take t.relations.count t.names) s name made.named

  -- `models::fitting::fits` over the cells of an element's own positions
  pub fits-means-Fits : (a : ℕ) → a < length s → (p : Particle ℕ) → content_at s a ≡ children p → (w : List ℕ) (r : Bool)
      → ((q : Particle ℕ) → AutomatonOf q (ends_in (entry t a).content) (take (entry t a).size (entry t a).elements) (take (entry t a).size (entry t a).predecessors) → T r ↔ Fits q w) → T r ↔ Fits p w
  fits-means-Fits a l p e w r h =
      let few = accepted-length text s read in
      h p (entries-automaton s t.entries made.entries a (omega arith) p e)
