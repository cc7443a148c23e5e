-- What a whole field says, as a step of the pass.
use Rattle.std.specs.Prelude.{Bool, true, false, List, [], ◌∷◌, ◌⊎◌, ◌≡◌, ℕ, ◌+◌, ◌≤◌, Option, Some, None, eqb, length}
use Rattle.extract_reader.specs.declared.field_values.Field.{Field}
use Rattle.extract_reader.specs.declared.levels.Level.{Level}
use Rattle.extract_reader.specs.declared.reading.Carried.{Carried}
use Rattle.extract_reader.specs.field_tests.Tests.{word_types}
use Rattle.extract_reader.specs.field_values.Fields.{state_in, field_step, Bounds}
use Rattle.extract_reader.specs.levels.Levels.{Known}
use Rattle.extract_spec.specs.Reading.{count_value}
use Rattle.projection_laws.specs.Opens.{placed}
use Rattle.projection_laws.specs.extract_passes.Steps.{state, Step, wrong, ended, onward, later_step, size_at, past_field, step_at, first_step}
use Rattle.schema_spec.specs.Names.{element}
use Rattle.schema_spec.specs.Types.{Types}
use Rattle.table_spec.specs.Rows.{element_row}
use Rattle.text_spec.specs.Limits.{max_depth}
use Rattle.text_spec.specs.Lists.{part}

-- ---- a count
abbrev pub CountPass : List ℕ → Carried → ℕ → Type 0
CountPass bs c size = c.at + 3 + size ≤ length bs

pub record CountAs (bs : List ℕ) (c : Carried) (size : ℕ) (r : Option Field) : Type 0 where
  pub step : (words : List ℕ) (levels : List Level) → field_step levels c.rows (c.at + 7) r
      ≡ later_step (word_types words) bs (state_in levels c) (eqb (c.at + 3 + size) (length bs)) (count_value (part (c.at + 3) size bs))
  pub bounds : Bounds c size r

-- ---- the field at the carried place
pub record FieldPass (bs : List ℕ) (levels : List Level) (c : Carried) : Type 0 where
  pub shallow : c.depth ≤ max_depth
  pub known : Known levels c.depth
  pub inside : c.at ≤ length bs

pub record FieldAs (bs words : List ℕ) (levels : List Level) (c : Carried) (r : Option Field) : Type 0 where
  pub step : field_step levels c.rows (c.at + 7) r ≡ step_at (word_types words) bs c.at (state_in levels c)
  pub bounds : Bounds c (size_at bs c.at) r
  pub inside : (r ≡ None) ⊎ (past_field bs c.at ≤ length bs)

-- ---- the first field, of any schema: the root's, or the count of an empty table
abbrev pub first_of : Option Bool → Step
first_of None = wrong
first_of (Some false) = ended
first_of (Some true) = onward (element_row 0 0 0) (state 1 0 false (placed 0 0 0 ∷ []))

pub record FirstAs (bs : List ℕ) (r : Option Bool) : Type 0 where
  pub step : (s : Types) → s.root ≡ element 0 → first_step s bs ≡ first_of r
  pub past : r ≡ Some true → past_field bs 0 ≡ 8
  pub inside : r ≡ Some true → 8 ≤ length bs
