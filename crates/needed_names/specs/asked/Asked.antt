-- That needed names are asked of a schema, and the conditions and steps that are asked for.
use Rattle.std.specs.Prelude.{List, ℕ}
use Rattle.compiled_paths.specs.Steps.{alternatives_in, steps_in}
use Rattle.names.specs.Sets.{NamesOf}
use Rattle.names.specs.relations.Relations.{RelationsOf}
use Rattle.needed_names.specs.declared.asked.Asked.{Asked}
use Rattle.path_spec.specs.Paths.{WrittenStep, Condition, alternatives}
use Rattle.schema_spec.specs.Schemas.{Schema}

-- the relations and the names are those of the schema
pub record AskedOf (s : Schema) (a : Asked) : Type 0 where
  pub relations : RelationsOf s a.relations.now
  pub named : NamesOf s a.all

-- the condition of the alternatives that take n steps from i on
abbrev pub asked_alternatives : Asked → ℕ → ℕ → Condition ℕ
asked_alternatives a n i = alternatives (alternatives_in a.paths.now.steps n i)

-- n written steps from k on
abbrev pub asked_steps : Asked → ℕ → ℕ → List (WrittenStep ℕ (Condition ℕ))
asked_steps a n k = steps_in a.paths.now.steps a.paths.now.conditions n k
