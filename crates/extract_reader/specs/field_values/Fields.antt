-- What the value of a field says, as a step of the pass.
use Rattle.std.specs.Prelude.{Bool, true, false, List, ◌∷◌, ◌≡◌, ℕ, suc, ◌+◌, ◌<◌, ◌≤◌, Option, Some, None, length}
use Rattle.extract_reader.specs.declared.field_values.Field.{Field}
use Rattle.extract_reader.specs.declared.field_values.Field.TheVariants.{Count, Element, Text}
use Rattle.extract_reader.specs.declared.levels.Level.{Level}
use Rattle.extract_reader.specs.declared.reading.Carried.{Carried}
use Rattle.extract_reader.specs.field_tests.Tests.{word_types}
use Rattle.extract_reader.specs.levels.Levels.{levels_in, Known}
use Rattle.extract_spec.specs.Reading.{element_value, text_value, top_row, top_element}
use Rattle.projection_laws.specs.Opens.{placed}
use Rattle.projection_laws.specs.extract_passes.Steps.{State, state, Step, wrong, ended, onward, later_step}
use Rattle.table_spec.specs.Rows.{element_row, text_row}
use Rattle.text_spec.specs.Limits.{max_declarations, max_nodes, max_depth, max_text_bytes}
use Rattle.text_spec.specs.Lists.{part}

abbrev pub state_in : List Level → Carried → State
state_in levels c = state c.rows c.number c.text (levels_in levels c.depth)

-- ---- a field as a step; `start` is where a text's bytes stand
abbrev pub field_step : List Level → ℕ → ℕ → Option Field → Step
field_step levels next start None = wrong
field_step levels next start (Some Count) = ended
field_step levels next start (Some (Element number e d)) =
    onward (element_row number e (top_row (levels_in levels d))) (state (suc next) number false (placed next number e ∷ levels_in levels d))
field_step levels next start (Some (Text number d size)) =
    onward (text_row number (top_element (levels_in levels d)) (top_row (levels_in levels d)) start size size) (state (suc next) number true (levels_in levels d))

-- ---- what the functions ask and answer
-- a value of so many bytes after the tag and the length of the field at the carried place
pub record ValuePass (bs : List ℕ) (levels : List Level) (c : Carried) (size : ℕ) : Type 0 where
  pub shallow : c.depth ≤ max_depth
  pub known : Known levels c.depth
  pub inside : c.at + 3 + size ≤ length bs

-- a row's bounds: its number, and the levels that stay open
pub record RowBounds (c : Carried) (number d : ℕ) : Type 0 where
  pub rises : c.number < number
  pub small : number < max_nodes
  pub low : 0 < d
  pub high : d ≤ c.depth

-- and its element or its text's length, and its value's size
abbrev pub Bounds : Carried → ℕ → Option Field → Type 0
Bounds c size None = Unit
Bounds c size (Some Count) = Unit
Bounds c size (Some (Element number e d)) = RowBounds c number d × (d < max_depth) × (e < max_declarations) × (size ≡ 5)
Bounds c size (Some (Text number d n)) = RowBounds c number d × (n ≤ max_text_bytes) × (size ≡ n + 4)

-- the step of an element's value, and of a text's
pub record ElementAs (bs words : List ℕ) (levels : List Level) (c : Carried) (size : ℕ) (r : Option Field) : Type 0 where
  pub step : (last : Bool)
      → field_step levels c.rows (c.at + 7) r ≡ later_step (word_types words) bs (state_in levels c) last (element_value (part (c.at + 3) size bs))
  pub bounds : Bounds c size r

pub record TextAs (bs words : List ℕ) (levels : List Level) (c : Carried) (size : ℕ) (r : Option Field) : Type 0 where
  pub step : (last : Bool)
      → field_step levels c.rows (c.at + 7) r ≡ later_step (word_types words) bs (state_in levels c) last (text_value (c.at + 3) (part (c.at + 3) size bs))
  pub bounds : Bounds c size r
