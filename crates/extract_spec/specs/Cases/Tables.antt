-- Cutting, writing and reading on S and J: what is kept, the bytes, the rows read back, and extracts that are refused.
use Rattle.std.specs.Prelude.{List, [], ◌∷◌, map, ◌≡◌, refl, ℕ}
use Rattle.extract_spec.specs.Cases.Opened.{computing}
use Rattle.extract_spec.specs.Cut.{cut, cut_to_word}
use Rattle.extract_spec.specs.Fields.{write_extract, extract_rows}
use Rattle.extract_spec.specs.Reading.{read_extract}
use Rattle.schema_spec.specs.Names.{element}
use Rattle.schema_spec.specs.Records.{schema_in}
use Rattle.schema_spec.specs.Types.{Types, types_of}
use Rattle.table_spec.specs.Rows.{Row, element_row, text_row}
use Rattle.text_spec.specs.Cases.{Case, case, AllHold, answered}
use Rattle.text_spec.specs.Lists.{bytes}
use Rattle.text_spec.specs.Refusals.{Outcome, accepted, refused, at, bad_length, bad_extract}

-- "Schema S", "Journal J"
abbrev pub schema_s : List ℕ
schema_s = bytes "<!ELEMENT scan (plate*)><!ELEMENT plate (well|tile)*><!ELEMENT well (tile*)><!ELEMENT tile (focus?)><!ELEMENT focus (#PCDATA)>"

abbrev pub journal_j : List ℕ
journal_j = bytes "<scan><plate><well><tile><focus>12</focus></tile></well><tile/></plate></scan>"

abbrev pub types_s : Types
types_s = types_of (schema_in schema_s)

-- J's rows, the text at the start given: scan 0, plate 1, well 2, tile 3, focus 4, its text 5, and the tile 6 under plate
abbrev pub rows_j : ℕ → List Row
rows_j start =
    element_row 0 0 0
    ∷ element_row 1 1 0
    ∷ element_row 2 2 1
    ∷ element_row 3 3 2
    ∷ element_row 4 4 3
    ∷ text_row 5 4 4 start 2 2
    ∷ element_row 6 3 1
    ∷ []

-- those that document 01's fourth path keeps, which needs scan, plate, tile and focus: the tile 3 stands under well
abbrev pub rows_p : List Row
rows_p = element_row 0 0 0 ∷ element_row 1 1 0 ∷ element_row 6 3 1 ∷ []

-- their extract: three fields of 8 bytes and the count's 5: 29 bytes
abbrev pub extract_p : List ℕ
extract_p =
    0x01 ∷ 0x00 ∷ 0x05 ∷ 0x00 ∷ 0x00 ∷ 0x00 ∷ 0x00 ∷ 0x00
    ∷ 0x01 ∷ 0x00 ∷ 0x05 ∷ 0x00 ∷ 0x01 ∷ 0x00 ∷ 0x00 ∷ 0x01
    ∷ 0x01 ∷ 0x00 ∷ 0x05 ∷ 0x00 ∷ 0x06 ∷ 0x00 ∷ 0x01 ∷ 0x03
    ∷ 0x03 ∷ 0x00 ∷ 0x02 ∷ 0x00 ∷ 0x03 ∷ []

-- the extract of all seven rows: 5 fields of 8 bytes, the text's 9, one of 8, the count's 5: 62 bytes. The text's field begins at 40, its bytes,
-- after a tag, a length and two numbers, at 47.
abbrev pub extract_j : List ℕ
extract_j =
    0x01 ∷ 0x00 ∷ 0x05 ∷ 0x00 ∷ 0x00 ∷ 0x00 ∷ 0x00 ∷ 0x00
    ∷ 0x01 ∷ 0x00 ∷ 0x05 ∷ 0x00 ∷ 0x01 ∷ 0x00 ∷ 0x00 ∷ 0x01
    ∷ 0x01 ∷ 0x00 ∷ 0x05 ∷ 0x00 ∷ 0x02 ∷ 0x00 ∷ 0x01 ∷ 0x02
    ∷ 0x01 ∷ 0x00 ∷ 0x05 ∷ 0x00 ∷ 0x03 ∷ 0x00 ∷ 0x02 ∷ 0x03
    ∷ 0x01 ∷ 0x00 ∷ 0x05 ∷ 0x00 ∷ 0x04 ∷ 0x00 ∷ 0x03 ∷ 0x04
    ∷ 0x02 ∷ 0x00 ∷ 0x06 ∷ 0x00 ∷ 0x05 ∷ 0x00 ∷ 0x04 ∷ 0x31 ∷ 0x32
    ∷ 0x01 ∷ 0x00 ∷ 0x05 ∷ 0x00 ∷ 0x06 ∷ 0x00 ∷ 0x01 ∷ 0x03
    ∷ 0x03 ∷ 0x00 ∷ 0x02 ∷ 0x00 ∷ 0x07 ∷ []

-- that of the root alone, and of no row
abbrev pub extract_of_root : List ℕ
extract_of_root = 0x01 ∷ 0x00 ∷ 0x05 ∷ 0x00 ∷ 0x00 ∷ 0x00 ∷ 0x00 ∷ 0x00 ∷ 0x03 ∷ 0x00 ∷ 0x02 ∷ 0x00 ∷ 0x01 ∷ []

abbrev pub no_rows : List ℕ
no_rows = 0x03 ∷ 0x00 ∷ 0x02 ∷ 0x00 ∷ 0x00 ∷ []

-- ---- cutting
pub cut-by-names : cut (map element (0 ∷ 1 ∷ 3 ∷ 4 ∷ [])) (rows_j 32) ≡ rows_p
unfolding computing
cut-by-names = refl

-- of a table in which the cut row stands before its parents: `<scan><plate><well/><tile><focus>x</focus></tile></plate></scan>`; 64 bits
-- with bits 0, 1, 3, 4 and 36, and bits 5 and 63, which mean nothing
abbrev pub rows_k : List Row
rows_k = element_row 0 0 0 ∷ element_row 1 1 0 ∷ element_row 2 2 1 ∷ element_row 3 3 1 ∷ element_row 4 4 3 ∷ text_row 5 4 4 33 1 1 ∷ []

pub parents-renumbered : cut_to_word types_s 9223372105574252603 rows_k ≡ element_row 0 0 0 ∷ element_row 1 1 0 ∷ element_row 3 3 1 ∷ element_row 4 4 2 ∷ text_row 5 4 3 33 1 1 ∷ []
unfolding computing
parents-renumbered = refl

-- ---- writing
pub written-J : write_extract journal_j (rows_j 32) ≡ extract_j
unfolding computing
written-J = refl

pub written-P : write_extract journal_j rows_p ≡ extract_p
unfolding computing
written-P = refl

pub written-root : write_extract journal_j (element_row 0 0 0 ∷ []) ≡ extract_of_root
unfolding computing
written-root = refl

pub written-empty : write_extract journal_j [] ≡ no_rows
unfolding computing
written-empty = refl

pub rows-in-extract : extract_rows journal_j (rows_j 32) ≡ rows_j 47
unfolding computing
rows-in-extract = refl

-- ---- reading
-- the root, and a plate of the number given in two bytes
abbrev pub root_and_plate : ℕ → ℕ → List ℕ
root_and_plate high low =
    0x01 ∷ 0x00 ∷ 0x05 ∷ 0x00 ∷ 0x00 ∷ 0x00 ∷ 0x00 ∷ 0x00
    ∷ 0x01 ∷ 0x00 ∷ 0x05 ∷ high ∷ low ∷ 0x00 ∷ 0x00 ∷ 0x01
    ∷ 0x03 ∷ 0x00 ∷ 0x02 ∷ 0x00 ∷ 0x02 ∷ []

-- an extract, and what reading it under S gives
pub cases : List (Case (List ℕ) (Outcome (List Row)))
cases =
    -- a text starts at its bytes in the extract
    case extract_j (accepted (rows_j 47))
    ∷ case extract_p (accepted rows_p)
    ∷ case extract_of_root (accepted (element_row 0 0 0 ∷ []))
    ∷ case no_rows (accepted [])
    -- 17: a count that is not that of the rows; 2: no bytes
    ∷ case (0x01 ∷ 0x00 ∷ 0x05 ∷ 0x00 ∷ 0x00 ∷ 0x00 ∷ 0x00 ∷ 0x00 ∷ 0x03 ∷ 0x00 ∷ 0x02 ∷ 0x00 ∷ 0x02 ∷ []) (refused (at bad_extract 0))
    ∷ case [] (refused (at bad_length 0))
    -- "later numbers rise, to 65,534 at most"
    ∷ case (root_and_plate 0xFF 0xFE) (accepted (element_row 0 0 0 ∷ element_row 65534 1 0 ∷ []))
    ∷ case (root_and_plate 0xFF 0xFF) (refused (at bad_extract 0))
    ∷ []

pub all_hold : AllHold (read_extract types_s) cases
unfolding computing cases
all_hold = answered cases
