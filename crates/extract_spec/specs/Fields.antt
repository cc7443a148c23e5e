-- The bytes of an extract: "fields of a one-byte tag, a two-byte length (high byte first) and a value".
use Rattle.std.specs.Prelude.{List, [], ◌∷◌, ◌++◌, ℕ, ◌+◌, ◌/◌, ◌%◌, length}
use Rattle.std.proofs.Math.Option.{Option, none, some}
use Rattle.std.proofs.Math.ListN.{get_elem?}
use Rattle.schema_spec.specs.Names.{Name, element, text}
use Rattle.table_spec.specs.Rows.{Row, characters_of, with_characters}
use Rattle.text_spec.specs.Lists.{gather}

-- the three fields; "all numbers high byte first"
abbrev pub element_tag : ℕ
element_tag = 0x01

abbrev pub text_tag : ℕ
text_tag = 0x02

abbrev pub count_tag : ℕ
count_tag = 0x03

-- a number in two bytes
abbrev pub two_bytes : ℕ → List ℕ
two_bytes n = (n / 256 % 256) ∷ (n % 256) ∷ []

abbrev pub field : ℕ → List ℕ → List ℕ
field tag value = tag ∷ (two_bytes (length value) ++ value)

-- "01 hex, length 5: node number (2), parent's number (2, the root's own is 0), element index (1)"; "02 hex, length 4 + n: number (2), parent's number (2),
-- n raw text bytes". Document 02, R-2: "a text field carries the decoded characters".
abbrev pub row_field : Name → ℕ → ℕ → List ℕ → List ℕ
row_field (element e) number parent w = field element_tag (two_bytes number ++ (two_bytes parent ++ (e ∷ [])))
row_field (text e) number parent w = field text_tag (two_bytes number ++ (two_bytes parent ++ w))

-- "parent's number (2, the root's own is 0)"
abbrev pub number_at : Option Row → ℕ
number_at none = 0
number_at (some p) = p.number

abbrev pub field_of : List ℕ → List Row → Row → List ℕ
field_of lent rows r = row_field r.name r.number (number_at (get_elem? rows r.parent)) (characters_of lent r)

-- "03 hex, length 2: count of rows; last, nothing after it"
unfoldable pub write_extract : List ℕ → List Row → List ℕ
write_extract lent rows = gather (field_of lent rows) rows ++ field count_tag (two_bytes (length rows))

-- The rows of a table as they stand in its extract: each text starts at its characters there, after the tag, the length and the two numbers of its
-- field, and has their number as both lengths. `k` bytes of the extract stand before the rows.
abbrev pub start_at : Name → ℕ → ℕ
start_at (element e) k = 0
start_at (text e) k = k + 3 + 4

abbrev pub rows_at : (Row → List ℕ) → ℕ → List Row → List Row
rows_at f k [] = []
rows_at f k (r ∷ rs) = with_characters (start_at r.name k) r ∷ rows_at f (k + length (f r)) rs

unfoldable pub extract_rows : List ℕ → List Row → List Row
extract_rows lent rows = rows_at (field_of lent rows) 0 rows
