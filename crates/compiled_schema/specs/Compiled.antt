-- What the compiled form of a schema says.
use Rattle.std.specs.Prelude.{List, map, ◌≡◌, ℕ, length, take, Result, Ok, Err}
use Rattle.compiled_schema.specs.declared.CompiledSchema.{CompiledSchema}
use Rattle.compiled_schema.specs.entries.Entries.{EntriesOf}
use Rattle.names.specs.closures.Schemas.{RelationOf}
use Rattle.schema.specs.Judging.{declared_at}
use Rattle.schema_spec.specs.Machine.{parse}
use Rattle.schema_spec.specs.Reading.{read_schema}
use Rattle.schema_spec.specs.Records.{schema_in}
use Rattle.schema_spec.specs.Schemas.{Schema}
use Rattle.schema_spec.specs.Types.{holds, types_of, is_below}
use Rattle.text.specs.declared.refusals.Refusal.{Refusal}
use Rattle.text.specs.refusals.Refusals.{refusal_in}
use Rattle.text_spec.specs.Cells.{padded}
use Rattle.text_spec.specs.Limits.{max_declarations}
use Rattle.text_spec.specs.Refusals.{accepted, refused}
use Rattle.text_spec.specs.Scans.{name_at}

-- The compiled form of a schema whose names stand in a text. Nothing is open: cells past the last element are 0.
pub record CompiledOf (text : List ℕ) (s : Schema) (t : CompiledSchema) : Type 0 where
  pub counted : t.relations.count ≡ length s
  pub places : t.names ≡ padded max_declarations (take (length s) (declared_at (parse text)))
  pub named : map (name_at text) (take t.relations.count t.names) ≡ map (λ e. e.name) s
  pub entries : EntriesOf s t.entries
  pub held : RelationOf (holds s) t.relations.«holds»
  pub beneath : RelationOf (is_below (types_of s)) t.relations.below

-- What judging and compiling a text in one reading answers: the compiled form of the schema in it, or the refusal that comes first.
abbrev pub JudgedBy : List ℕ → Result CompiledSchema Refusal → Type 0
JudgedBy text (Ok t) = (read_schema text ≡ accepted (schema_in text)) × CompiledOf text (schema_in text) t
JudgedBy text (Err f) = read_schema text ≡ refused (refusal_in f)

pub record JudgedAs (text : List ℕ) (r : Result CompiledSchema Refusal) : Type 0 where
  pub says : JudgedBy text r
