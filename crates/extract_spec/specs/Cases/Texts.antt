-- Texts that stand for fewer characters than they have bytes: written decoded, and placed by their characters. The same bytes with two equal lengths, as a text
-- read from an extract has them, are copied.
use Rattle.std.specs.Prelude.{List, [], ◌∷◌, ◌++◌, ◌≡◌, refl, ℕ}
use Rattle.extract_spec.specs.Cases.Opened.{computing}
use Rattle.extract_spec.specs.Cases.Tables.{types_s}
use Rattle.extract_spec.specs.Fields.{write_extract, extract_rows}
use Rattle.extract_spec.specs.Reading.{read_extract}
use Rattle.table_spec.specs.Rows.{Row, element_row, text_row}
use Rattle.text_spec.specs.Lists.{bytes}
use Rattle.text_spec.specs.Refusals.{accepted}

-- scan 0, plate 1, and under it two tiles, each with a focus and its text: the rows 2 to 4 and 5 to 7, the texts with these starts and lengths
abbrev rows_t : ℕ → ℕ → ℕ → ℕ → List Row
rows_t first second size decoded =
    element_row 0 0 0
    ∷ element_row 1 1 0
    ∷ element_row 2 3 1
    ∷ element_row 3 4 2
    ∷ text_row 4 4 3 first size decoded
    ∷ element_row 5 3 1
    ∷ element_row 6 4 5
    ∷ text_row 7 4 6 second size decoded
    ∷ []

abbrev element_field : ℕ → ℕ → ℕ → List ℕ
element_field number parent e = 0x01 ∷ 0x00 ∷ 0x05 ∷ 0x00 ∷ number ∷ 0x00 ∷ parent ∷ e ∷ []

-- the extract of these rows, by the length of a text's value and its bytes
abbrev extract_t : ℕ → List ℕ → List ℕ
extract_t size w =
    element_field 0 0 0 ++ (element_field 1 0 1 ++ (element_field 2 1 3 ++ (element_field 3 2 4
    ++ ((0x02 ∷ 0x00 ∷ size ∷ 0x00 ∷ 4 ∷ 0x00 ∷ 3 ∷ []) ++ (w
    ++ (element_field 5 1 3 ++ (element_field 6 5 4
    ++ ((0x02 ∷ 0x00 ∷ size ∷ 0x00 ∷ 7 ∷ 0x00 ∷ 6 ∷ []) ++ (w ++ (0x03 ∷ 0x00 ∷ 0x02 ∷ 0x00 ∷ 8 ∷ []))))))))))

-- 6 bytes that stand for 3 characters
abbrev spelt : List ℕ
spelt = bytes "a&lt;b"

pub decoded-written : write_extract spelt (rows_t 0 0 6 3) ≡ extract_t 7 (bytes "a<b")
unfolding computing
decoded-written = refl

-- four fields of 8 bytes, the text's 7 and 3, two fields of 8 and the second text's 7
pub decoded-placed : extract_rows spelt (rows_t 0 0 6 3) ≡ rows_t 39 65 3 3
unfolding computing
decoded-placed = refl

pub decoded-read : read_extract types_s (extract_t 7 (bytes "a<b")) ≡ accepted (rows_t 39 65 3 3)
unfolding computing
decoded-read = refl

-- an extract whose texts hold an entity: they are not decoded again
pub copied-read : read_extract types_s (extract_t 10 spelt) ≡ accepted (rows_t 39 68 6 6)
unfolding computing
copied-read = refl

pub copied-written : write_extract (extract_t 10 spelt) (rows_t 39 68 6 6) ≡ extract_t 10 spelt
unfolding computing
copied-written = refl
