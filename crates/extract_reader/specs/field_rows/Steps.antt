-- A field of an extract as a row in cells, with what is then carried on.
use Rattle.std.specs.Prelude.{Bool, true, false, List, ◌≡◌, ℕ, ◌+◌, ◌*◌, ◌<◌, ◌≤◌, Option, Some, None, Result, Ok, Err, length, set}
use Rattle.extract_reader.specs.declared.field_rows.FieldRow.{FieldRow}
use Rattle.extract_reader.specs.declared.levels.Level.{Level}
use Rattle.extract_reader.specs.declared.reading.Carried.{Carried}
use Rattle.extract_reader.specs.declared.reading.Reader.{Reader}
use Rattle.extract_reader.specs.field_tests.Tests.{word_types}
use Rattle.extract_reader.specs.field_values.Fields.{state_in}
use Rattle.extract_reader.specs.fields.Fields.{FieldPass}
use Rattle.extract_reader.specs.levels.Levels.{level, last_row, last_element}
use Rattle.extract_reader.specs.reading.Readers.{SameSource}
use Rattle.projection_laws.specs.extract_passes.Steps.{wrong, ended, onward, past_field, step_at}
use Rattle.table_spec.specs.Rows.{Row, Cells, cells_of}
use Rattle.text.specs.declared.refusals.Reason.TheVariants.{BadExtract}
use Rattle.text.specs.declared.refusals.Refusal.{Refusal}
use Rattle.text.specs.refusals.Refusals.{refusal}
use Rattle.text_spec.specs.Limits.{max_declarations, max_nodes, max_depth, max_text_bytes}

-- ---- a row in cells; the text is as it was decoded, so that its lengths are equal
abbrev pub row_cells : FieldRow → Cells
row_cells r = record { number = r.number; name = r.name; parent = r.parent; start = r.start; size = r.size; decoded = r.size }

abbrev pub carried_on : ℕ → ℕ → ℕ → Bool → ℕ → Carried
carried_on at rows number after depth = record { at = at; rows = rows; number = number; text = after; depth = depth }

abbrev pub field_row : ℕ → ℕ → ℕ → ℕ → ℕ → FieldRow
field_row number name parent start size = record { number = number; name = name; parent = parent; start = start; size = size }

-- of an element, which is opened, and of a text
pub record ElementRead (old : Reader) (number e d : ℕ) (new : Reader) (r : FieldRow) : Type 0 where
  pub source : SameSource old new
  pub levels : new.levels ≡ set old.levels d (level old.carried.rows number e)
  pub carried : new.carried ≡ carried_on (old.carried.at + 8) (old.carried.rows + 1) number false (d + 1)
  pub row : r ≡ field_row number e (last_row old.levels d) 0 0

pub record TextRead (old : Reader) (number d size : ℕ) (new : Reader) (r : FieldRow) : Type 0 where
  pub source : SameSource old new
  pub levels : new.levels ≡ old.levels
  pub carried : new.carried ≡ carried_on (old.carried.at + 7 + size) (old.carried.rows + 1) number true d
  pub row : r ≡ field_row number (last_element old.levels d + max_declarations) (last_row old.levels d) (old.carried.at + 7) size

-- the numbers fit their cells
pub record ElementPlace (c : Carried) (number d : ℕ) : Type 0 where
  pub low : 0 < d
  pub high : d < max_depth
  pub row-short : c.rows < 65536
  pub next : c.at + 8 < 4294967296

pub record TextPlace (levels : List Level) (c : Carried) (number d size : ℕ) : Type 0 where
  pub low : 0 < d
  pub high : d ≤ max_depth
  pub element-small : last_element levels d < max_declarations
  pub row-short : c.rows < 65536
  pub size-short : size < 65536
  pub next : c.at + 7 + size < 4294967296

-- the longest field of a row
abbrev pub max_field : ℕ
max_field = max_text_bytes + 7

-- ---- what holds from field to field: numbers rise from 0, and no field is longer than that of the longest text
pub record StepPass (c : Carried) : Type 0 where
  pub small : c.number < max_nodes
  pub few : c.rows ≤ c.number + 1
  pub short : c.at ≤ max_field * c.rows

-- a field can be read
pub record Ready (bs : List ℕ) (levels : List Level) (c : Carried) : Type 0 where
  pub field-pass : FieldPass bs levels c
  pub bounds : StepPass c
  pub long : length levels ≡ max_depth

-- the step of the field at the carried place: a row in its cells, past that field
pub data StepAs (bs words : List ℕ) (levels : List Level) (c : Carried) (levels' : List Level) (next : Carried) : Result (Option FieldRow) Refusal → Type 0 where
  wrong-field : step_at (word_types words) bs c.at (state_in levels c) ≡ wrong → levels' ≡ levels → next ≡ c → StepAs bs words levels c levels' next (Err (refusal BadExtract 0))
  last-field : step_at (word_types words) bs c.at (state_in levels c) ≡ ended → c.at < length bs → next ≡ c → StepAs bs words levels c levels' next (Ok None)
  row_field : {r : FieldRow} (row : Row) → step_at (word_types words) bs c.at (state_in levels c) ≡ onward row (state_in levels' next)
      → row_cells r ≡ cells_of row → next.rows ≡ c.rows + 1 → past_field bs c.at ≡ next.at → c.at < next.at → Ready bs levels' next
      → StepAs bs words levels c levels' next (Ok (Some r))

pub record Steps (old new : Reader) (r : Result (Option FieldRow) Refusal) : Type 0 where
  pub source : SameSource old new
  pub step : StepAs old.extract.now old.words.now old.levels old.carried new.levels new.carried r
