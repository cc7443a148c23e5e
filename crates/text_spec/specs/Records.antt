-- Records: a text in cells of a fixed number, as a reader hands it back and a caller hands it in.
use Rattle.std.specs.Prelude.{Bool, ◌&&◌, List, ℕ, leb, length, take}
use Rattle.text_spec.specs.Cells.{padded}
use Rattle.text_spec.specs.Lists.{same_bytes}

-- A record is a text in cells of a fixed number, with its length; the cells past it are 0.
pub record TextRecord : Type 0 where
  pub cells : List ℕ
  pub size : ℕ

abbrev pub text_in : TextRecord → List ℕ
text_in r = take r.size r.cells

abbrev pub record_of : ℕ → List ℕ → TextRecord
record_of limit text = record { cells = padded limit text; size = length text }

-- the cells are those of the text in the record
abbrev pub is_record : ℕ → TextRecord → Bool
is_record limit r = leb r.size limit && same_bytes r.cells (padded limit (text_in r))
