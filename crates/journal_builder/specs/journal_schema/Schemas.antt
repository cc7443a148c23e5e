-- What reading a journal asks of its schema.
use Rattle.std.specs.Prelude.{List, ◌≡◌, ℕ, ◌%◌, ◌≤◌, ◌<◌, length, take}
use Rattle.std.proofs.Common.{sym, subst, arith, mod-eq_of_lt}
use Rattle.compiled_schema.specs.Compiled.{CompiledOf}
use Rattle.compiled_schema.specs.declared.CompiledSchema.{CompiledSchema}
use Rattle.compiled_schema.specs.declared.entry_parts.ElementEntry.{ElementEntry}
use Rattle.compiled_schema.specs.entries.Entries.{entry_at}
use Rattle.compiled_schema.specs.entry_parts.Entries.{ContentOf, ends_in, EntryOf}
use Rattle.compiled_schema.specs.entry_parts.EntryLaws.{entry-automaton, entry-size}
use Rattle.journal_builder.specs.declared.journal_schema.JournalSchema.{JournalSchema}
use Rattle.journal_builder.specs.element_names.Names.{NameRead, NamesOf}
use Rattle.journal_builder.specs.element_names.SchemaNames.{names_of}
use Rattle.journal_builder.specs.journal_schema.Entries.{Sized}
use Rattle.models.specs.Automaton.{AutomatonOf}
use Rattle.models.specs.declared.Content.{Content as ContentRead}
use Rattle.models.specs.declared.Content.TheVariants.{Empty, Pcdata, Children}
use Rattle.models.specs.declared.fitting.Automaton.{Automaton}
use Rattle.schema_laws.specs.Accepted.{accepted-spelt, accepted-length, schema_in-by, schema_in-length}
use Rattle.schema_spec.specs.Models.{Particle, Content, empty, pcdata, children}
use Rattle.schema_spec.specs.Reading.{read_schema}
use Rattle.schema_spec.specs.Records.{schema_in}
use Rattle.schema_spec.specs.Schemas.{Schema, content_at}
use Rattle.text_laws.specs.Texts.{length-within}
use Rattle.text_spec.specs.Limits.{max_declarations, max_schema_bytes}
use Rattle.text_spec.specs.Refusals.{accepted}

-- what is known of an element
abbrev pub entry_of : JournalSchema → ℕ → ElementEntry
entry_of t e = entry_at t.compiled.now.entries (e % max_declarations)

-- a position automaton is that of an entry
pub record IsAutomaton (x : ElementEntry) (r : Automaton) : Type 0 where
  pub ends : r.ends ≡ ends_in x.content
  pub elements : r.elements.now ≡ take x.size x.elements
  pub predecessors : r.predecessors.now ≡ take x.size x.predecessors

-- a content as the code has it is of the kind that is declared
abbrev pub KindOf : Content ℕ → ContentRead → Type 0
KindOf c Empty = c ≡ empty
KindOf c Pcdata = c ≡ pcdata
KindOf c (Children e) = (p : Particle ℕ) × (c ≡ children p)

-- the kinds of content are those of a schema
pub record KindsOf (s : Schema) (t : JournalSchema) : Type 0 where
  pub few : length s ≤ max_declarations
  pub kind : (a : ℕ) → a < length s → KindOf (content_at s a) (entry_of t a).content

-- its models begin and end as position automata, of whatever cells
pub record ModelEnds (s : Schema) (t : JournalSchema) : Type 0 where
  pub few : length s ≤ max_declarations
  pub ends : (a : ℕ) → a < length s → (p : Particle ℕ) → content_at s a ≡ children p
      → (elements : List ℕ) × (predecessors : List ℕ) × AutomatonOf p (ends_in (entry_of t a).content) elements predecessors

-- the models' position automata, each in the cells of its own positions: what stands past these is never seen
pub record ModelsOf (s : Schema) (t : JournalSchema) : Type 0 where
  pub few : length s ≤ max_declarations
  pub automata : (a : ℕ) → a < length s → (p : Particle ℕ) → content_at s a ≡ children p
      → AutomatonOf p (ends_in (entry_of t a).content) (take (entry_of t a).size (entry_of t a).elements) (take (entry_of t a).size (entry_of t a).predecessors)

pub models-end : {s : Schema} {t : JournalSchema} → ModelsOf s t → ModelEnds s t
models-end h = record { few = h.few; ends = λ a l p e. (_, _, h.automata a l p e) }

-- what it knows of elements is that of a schema, whatever names it has
pub record ContentsOf (s : Schema) (t : JournalSchema) : Type 0 where
  pub kinds : KindsOf s t
  pub models : ModelsOf s t

-- it knows the exact entry of each element of a schema
pub record ExactEntries (s : Schema) (t : JournalSchema) : Type 0 where
  pub few : length s ≤ max_declarations
  pub entries : (a : ℕ) → a < length s → EntryOf (content_at s a) (entry_of t a)

kind-of : (c : Content ℕ) (x : ContentRead) → ContentOf c x → KindOf c x
kind-of c Empty h = h
kind-of c Pcdata h = h
kind-of c (Children e) h = (h.0, h.1)

pub entries-contents : {s : Schema} {t : JournalSchema} → ExactEntries s t → ContentsOf s t
entries-contents {s} {t} h =
    record {
      kinds = record { few = h.few; kind = λ a l. kind-of (content_at s a) (entry_of t a).content (h.entries a l).content };
      models = record { few = h.few; automata = λ a l p e. entry-automaton (h.entries a l) p e };
    }

-- it is of a schema
pub record SchemaOf (s : Schema) (t : JournalSchema) : Type 0 where
  pub contents : ContentsOf s t
  pub names : NamesOf s t.names

-- it is of the schema in a text, if that is accepted; its models and names have their bounds in any case
pub record ReadFrom (text : List ℕ) (t : JournalSchema) : Type 0 where
  pub sized : Sized t.compiled.now
  pub few : t.names.count ≤ max_declarations
  pub schema : read_schema text ≡ accepted (schema_in text) → SchemaOf (schema_in text) t
  pub entries : read_schema text ≡ accepted (schema_in text) → ExactEntries (schema_in text) t

-- a text whose schema has an element is not too long
schema-short : (text : List ℕ) → 0 < length (schema_in text) → length text ≤ max_schema_bytes
schema-short text =
    schema_in-by text (λ s. 0 < length s → length text ≤ max_schema_bytes) (λ s e h. length-within max_schema_bytes text (accepted-spelt text s e).right-length) (λ h. absurd (omega arith))

module _ (text : List ℕ) (t : CompiledSchema) (made : CompiledOf text (schema_in text) t) where
  pub compiled-short : 0 < t.relations.count → length text ≤ max_schema_bytes
  compiled-short l = schema-short text (subst (λ (n : ℕ). 0 < n) made.counted l)

  pub compiled-few : t.relations.count ≤ max_declarations
  compiled-few = subst (λ (n : ℕ). n ≤ max_declarations) (sym made.counted) (schema_in-length text)

  pub compiled-sized : Sized t
  compiled-sized a l = entry-size (made.entries.each a l)

  pub compiled-read : (r : JournalSchema) → r.compiled.now ≡ t → NameRead text t.names t.relations.count r.names → ReadFrom text r
  compiled-read r same named =
      record {
        sized = subst Sized (sym same) compiled-sized;
        few = subst (λ (n : ℕ). n ≤ max_declarations) (sym named.counted) compiled-few;
        schema = λ read. record { contents = entries-contents (entries read); names = names_of text (schema_in text) read t made r.names named };
        entries = entries;
      }
    where
      entries : read_schema text ≡ accepted (schema_in text) → ExactEntries (schema_in text) r
      entries read =
          let s = schema_in text in
          let few = accepted-length text s read in
          record {
            few = few;
            entries = λ a l.
                let low : a < max_declarations = omega arith in
                subst (λ (u : CompiledSchema). EntryOf (content_at s a) (entry_at u.entries (a % max_declarations))) (sym same)
                (subst (λ (i : ℕ). EntryOf (content_at s a) (entry_at t.entries i)) (sym (mod-eq_of_lt low)) (made.entries.each a low));
          }
