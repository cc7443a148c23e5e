-- What judging a schema text answers and leaves in lent cells, in the definition's terms.
use Rattle.std.specs.Prelude.{List, [], map, ◌≡◌, ℕ, length, take, replicate, Result}
use Rattle.schema_spec.specs.Declarations.{Declaration}
use Rattle.schema_spec.specs.Machine.{parse}
use Rattle.schema_spec.specs.Models.{uses_in}
use Rattle.schema_spec.specs.Reading.{read_schema}
use Rattle.schema_spec.specs.Schemas.{Schema}
use Rattle.schema.specs.declared.Schema.{Schema as Record}
use Rattle.text.specs.declared.refusals.Refusal.{Refusal}
use Rattle.text.specs.refusals.Refusals.{outcome_of}
use Rattle.text_spec.specs.Cells.{padded}
use Rattle.text_spec.specs.Limits.{max_declarations, max_schema_bytes}
use Rattle.text_spec.specs.Lists.{gather}
use Rattle.text_spec.specs.Machines.{Parsed, spells, departs}
use Rattle.text_spec.specs.Refusals.{Outcome, accepted, refused}
use Rattle.text_spec.specs.Scans.{name_at}

-- the schema that is handed back on refusal
abbrev pub empty_schema : Record
empty_schema = record { bytes = replicate max_schema_bytes 0; len = 0 }

-- how many elements an accepted schema has
abbrev pub sized : Outcome Schema → Outcome ℕ
sized (accepted s) = accepted (length s)
sized (refused f) = refused f

-- judging a text answers so
pub record JudgedAs (text : List ℕ) (r : Result ℕ Refusal) : Type 0 where
  pub outcome : outcome_of r ≡ sized (read_schema text)

-- the elements that the models of a schema use, model by model
abbrev pub used_in : Schema → List ℕ
used_in s = gather (λ e. uses_in e.content) s

-- the places of the names that a text declares
abbrev pub declared_at : Parsed (List Declaration) → List ℕ
declared_at (spells ds) = map (λ d. d.name.place) ds
declared_at (departs k) = []

-- What an accepted text leaves in lent cells: the places of the declared names and then zeros, and first the elements that its models use.
pub record Located (text : List ℕ) (s : Schema) (names uses : List ℕ) : Type 0 where
  pub places : names ≡ padded max_declarations (declared_at (parse text))
  pub named : map (name_at text) (take (length s) names) ≡ map (λ e. e.name) s
  pub elements : take (length (used_in s)) uses ≡ used_in s

pub record JudgedInto (text names uses : List ℕ) (r : Result ℕ Refusal) : Type 0 where
  pub outcome : outcome_of r ≡ sized (read_schema text)
  pub located : (s : Schema) → read_schema text ≡ accepted s → Located text s names uses
