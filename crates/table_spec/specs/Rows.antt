-- Rows, the characters of their texts, and how rows stand in lent cells.
use Rattle.std.specs.Prelude.{cond, List, [], ◌∷◌, ℕ, eqb}
use Rattle.std.proofs.Math.Option.{Option, none, some}
use Rattle.schema_spec.specs.Names.{Name, element, text, code_of, name_of_code}
use Rattle.text_spec.specs.Lists.{part}
use Rattle.token_spec.specs.Characters.{decode}

-- "One row per node: number, name, parent's row, start and length of its text." Document 02, R-2: "Reading a text now yields its decoded length as well".
pub record Row : Type 0 where
  pub number : ℕ
  pub name : Name
  pub parent : ℕ
  pub start : ℕ
  pub size : ℕ
  pub decoded : ℕ

-- Rows are made by this function.
abbrev pub row : ℕ → Name → ℕ → ℕ → ℕ → ℕ → Row
row number name parent start size decoded = record { number = number; name = name; parent = parent; start = start; size = size; decoded = decoded }

-- the row of an element, which "carries text 0, 0" and has no decoded length, and that of a text
abbrev pub element_row : ℕ → ℕ → ℕ → Row
element_row number e parent = row number (element e) parent 0 0 0

abbrev pub text_row : ℕ → ℕ → ℕ → ℕ → ℕ → ℕ → Row
text_row number e parent start size decoded = row number (text e) parent start size decoded

-- the same node under another parent row
abbrev pub with_parent : ℕ → Row → Row
with_parent parent r = row r.number r.name parent r.start r.size r.decoded

-- the same node as a row of an extract, where its text starts elsewhere. Document 02, R-2: "Rows read from an extract have the decoded length as both lengths".
abbrev pub with_characters : ℕ → Row → Row
with_characters start r = row r.number r.name r.parent start r.decoded r.decoded

-- "The text of a row is handed back as that part of the journal."
abbrev pub text_of : List ℕ → Row → List ℕ
text_of lent r = part r.start r.size lent

-- The characters of a text, by its length and its decoded length. Document 02, R-2: "a row with two equal lengths is copied", and the bytes of any other are
-- decoded.
unfoldable pub characters_by : ℕ → ℕ → List ℕ → List ℕ
characters_by size decoded w = cond (eqb decoded size) w (decode w)

abbrev pub characters_of : List ℕ → Row → List ℕ
characters_of lent r = characters_by r.size r.decoded (text_of lent r)

-- a row as numbers, its name by its code, as a caller lends it or gets it
pub record Cells : Type 0 where
  pub number : ℕ
  pub name : ℕ
  pub parent : ℕ
  pub start : ℕ
  pub size : ℕ
  pub decoded : ℕ

abbrev pub cells_of : Row → Cells
cells_of r = record { number = r.number; name = code_of r.name; parent = r.parent; start = r.start; size = r.size; decoded = r.decoded }

abbrev pub row_with : Cells → Option Name → Option Row
row_with c none = none
row_with c (some n) = some (row c.number n c.parent c.start c.size c.decoded)

abbrev pub row_of : Cells → Option Row
row_of c = row_with c (name_of_code c.name)

abbrev pub cons_of : Option Row → Option (List Row) → Option (List Row)
cons_of none rs = none
cons_of (some r) none = none
cons_of (some r) (some rs) = some (r ∷ rs)

-- the rows of lent cells, if each name's code is one that a name can have
abbrev pub rows_of : List Cells → Option (List Row)
rows_of [] = some []
rows_of (c ∷ cs) = cons_of (row_of c) (rows_of cs)
