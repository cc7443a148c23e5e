-- The open elements of an extract, also in cells of 64 bits, and the climb to the one with a number.
use Rattle.std.specs.Prelude.{List, [], ◌∷◌, ◌≡◌, ℕ, zero, suc, ◌+◌, ◌*◌, ◌-◌, ◌/◌, ◌%◌, ◌<◌, ◌≤◌, Option, Some, None, get_or}
use Rattle.extract_reader.specs.declared.levels.Level.{Level}
use Rattle.extract_spec.specs.Reading.{Placed, open_from}
use Rattle.projection_laws.specs.Opens.{placed}
use Rattle.text_spec.specs.Limits.{max_declarations}

abbrev pub level : ℕ → ℕ → ℕ → Level
level row number e = record { row = row; number = number; element = e }

-- ---- an open element in a cell: its row, its number, its element
unfoldable pub level_word : ℕ → ℕ → ℕ → ℕ
level_word row number e = (e * 65536 + number) * 65536 + row

unfoldable pub row_in : ℕ → ℕ
row_in l = l % 65536

unfoldable pub number_in : ℕ → ℕ
number_in l = l / 65536 % 65536

unfoldable pub element_in : ℕ → ℕ
element_in l = l / 65536 / 65536

abbrev pub level_in : ℕ → Level
level_in l = level (row_in l) (number_in l) (element_in l)

abbrev pub level_at : List Level → ℕ → Level
level_at levels i = get_or levels i (level 0 0 0)

-- ---- the first d of them, nearest first
unfoldable pub levels_in : List Level → ℕ → List Placed
levels_in levels zero = []
levels_in levels (suc d) = placed (level_at levels d).row (level_at levels d).number (level_at levels d).element ∷ levels_in levels d

-- the row and the element of the last of the first d
abbrev pub last_row : List Level → ℕ → ℕ
last_row levels d = (level_at levels (d - 1)).row

abbrev pub last_element : List Level → ℕ → ℕ
last_element levels d = (level_at levels (d - 1)).element

-- their elements are some schema's
abbrev pub Known : List Level → ℕ → Type 0
Known levels d = (i : ℕ) → i < d → (level_at levels i).element < max_declarations

-- the element of each fits a byte, of those past all open ones, too
abbrev pub InBytes : List Level → Type 0
InBytes levels = (i : ℕ) → (level_at levels i).element < 256

-- the first d are those from the one with this number up
pub record LevelOf (levels : List Level) (depth number d : ℕ) : Type 0 where
  pub within : d ≤ depth
  pub found : levels_in levels d ≡ open_from number (levels_in levels depth)

-- the first d are, and not none; or none has this number
abbrev pub LevelFound : List Level → ℕ → ℕ → Option ℕ → Type 0
LevelFound levels depth number None = LevelOf levels depth number 0
LevelFound levels depth number (Some d) = LevelOf levels depth number d × (0 < d)
