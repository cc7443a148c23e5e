-- Schema texts on the way to their judgement: those that pass 2 and 3, those that pass 4 and 5 too, and what judging their names answers.
use Rattle.std.specs.Prelude.{List, [], map, ◌≡◌, ℕ, ◌≤◌, length, Result}
use Rattle.schema.specs.Judging.{sized, used_in}
use Rattle.schema.specs.places.Whole.{WithinLimits}
use Rattle.schema_spec.specs.Declarations.{Declaration}
use Rattle.schema_spec.specs.Machine.{parse}
use Rattle.schema_spec.specs.Reading.{read_schema}
use Rattle.schema_spec.specs.Schemas.{Schema}
use Rattle.text.specs.declared.refusals.Refusal.{Refusal}
use Rattle.text.specs.refusals.Refusals.{outcome_of}
use Rattle.text_spec.specs.Limits.{max_schema_bytes}
use Rattle.text_spec.specs.Machines.{spells}
use Rattle.text_spec.specs.Refusals.{accepted}
use Rattle.text_spec.specs.Scans.{name_at}
use Rattle.text_spec.specs.Texts.{length_refusals, byte_refusals}

-- what judging answers of a text whose names are declared at `names`, and used at `uses` before it is judged
pub record JudgedNames (text names uses uses' : List ℕ) (r : Result ℕ Refusal) : Type 0 where
  pub outcome : outcome_of r ≡ sized (read_schema text)
  pub long : length uses' ≡ length uses
  pub named : (s : Schema) → read_schema text ≡ accepted s → map (name_at text) names ≡ map (λ e. e.name) s
  pub elements : (s : Schema) → read_schema text ≡ accepted s → uses' ≡ used_in s

-- a text that passes 2 and 3
pub record Readable (text : List ℕ) : Type 0 where
  pub right-length : length_refusals max_schema_bytes text ≡ []
  pub right-bytes : byte_refusals text ≡ []
  pub short : length text ≤ max_schema_bytes

-- and 4 and 5, with the places of its declared and of its used names
pub record Spelling (text names uses : List ℕ) : Type 0 where
  pub readable : Readable text
  pub declarations : List Declaration
  pub spelt : parse text ≡ spells declarations
  pub kept : WithinLimits text declarations (length names) (length uses) (length text) names uses
