-- The outcome of reading an extract under a schema: refusals 2 and 17, or the rows.
use Rattle.std.specs.Prelude.{Bool, false, cond, not, List, [], ◌∷◌, ◌++◌, ℕ, zero, suc, ◌+◌, ◌*◌, eqb, leb, length, take, drop}
use Rattle.std.proofs.Math.Option.{Option, none, some}
use Rattle.extract_spec.specs.Fields.{element_tag, text_tag, count_tag}
use Rattle.schema_spec.specs.Types.{Types}
use Rattle.table_spec.specs.Rows.{Row, element_row, text_row}
use Rattle.table_spec.specs.Tables.{well_formed_with}
use Rattle.text_spec.specs.Lists.{is_empty}
use Rattle.text_spec.specs.Refusals.{Outcome, judged, at, given, bad_length, bad_extract}

-- what a field says; a text also says where its bytes stand
pub data Item : Type 0 where
  element_item : ℕ → ℕ → ℕ → Item
  text_item : ℕ → ℕ → ℕ → ℕ → Item
  count_item : ℕ → Item
  -- no field of an extract
  no_item : Item

abbrev pub in_two : ℕ → ℕ → ℕ
in_two high low = high * 256 + low

-- a value with its field's tag and its own place
abbrev pub element_value : List ℕ → Item
element_value [] = no_item
element_value (a ∷ []) = no_item
element_value (a ∷ b ∷ []) = no_item
element_value (a ∷ b ∷ c ∷ []) = no_item
element_value (a ∷ b ∷ c ∷ d ∷ []) = no_item
element_value (a ∷ b ∷ c ∷ d ∷ e ∷ []) = element_item (in_two a b) (in_two c d) e
element_value (a ∷ b ∷ c ∷ d ∷ e ∷ f ∷ w) = no_item

abbrev pub text_value : ℕ → List ℕ → Item
text_value place [] = no_item
text_value place (a ∷ []) = no_item
text_value place (a ∷ b ∷ []) = no_item
text_value place (a ∷ b ∷ c ∷ []) = no_item
text_value place (a ∷ b ∷ c ∷ d ∷ w) = text_item (in_two a b) (in_two c d) (place + 4) (length w)

abbrev pub count_value : List ℕ → Item
count_value [] = no_item
count_value (a ∷ []) = no_item
count_value (a ∷ b ∷ []) = count_item (in_two a b)
count_value (a ∷ b ∷ c ∷ w) = no_item

abbrev pub item_of : ℕ → ℕ → List ℕ → Item
item_of tag place value =
    cond (eqb tag element_tag) (element_value value) (cond (eqb tag text_tag) (text_value place value) (cond (eqb tag count_tag) (count_value value) no_item))

-- The items of bytes that start at a place: tag, length, value, and so on to the end. What is cut short is no item. A field has at
-- least three bytes, so there are fewer fields than bytes: `fuel` is their number.
abbrev pub items_from : ℕ → ℕ → List ℕ → List Item
items_from zero k [] = []
items_from zero k (tag ∷ bs) = no_item ∷ []
items_from (suc fuel) k [] = []
items_from (suc fuel) k (tag ∷ []) = no_item ∷ []
items_from (suc fuel) k (tag ∷ high ∷ []) = no_item ∷ []
items_from (suc fuel) k (tag ∷ high ∷ low ∷ bs) =
    let n = in_two high low in
    let later = item_of tag (k + 3) (take n bs) ∷ items_from fuel (k + 3 + n) (drop n bs) in
    cond (leb n (length bs)) later (no_item ∷ [])

unfoldable pub items_of : List ℕ → List Item
items_of bs = items_from (length bs) 0 bs

-- a row that a later one may stand under: its place in the table, its number, its element
pub record Placed : Type 0 where
  pub row : ℕ
  pub number : ℕ
  pub element : ℕ

-- the row before and those above it, from the one with this number up
abbrev pub open_from : ℕ → List Placed → List Placed
open_from number [] = []
open_from number (p ∷ ps) = cond (eqb p.number number) (p ∷ ps) (open_from number ps)

abbrev pub cons_row : Row → Option (List Row) → Option (List Row)
cons_row r none = none
cons_row r (some rs) = some (r ∷ rs)

abbrev pub top_row : List Placed → ℕ
top_row [] = 0
top_row (p ∷ ps) = p.row

abbrev pub top_element : List Placed → ℕ
top_element [] = 0
top_element (p ∷ ps) = p.element

-- Items turned into rows: `next` rows stand before, and `opens` are the row before and those above it, nearest first, without a text.
-- A parent's number is looked up there; a text name is that of its parent's element. Document 02, R-2: "Rows read from an extract have the decoded length
-- as both lengths". Last comes the count, and nothing after it.
abbrev pub rows_of_later_items : ℕ → List Placed → List Item → Option (List Row)
rows_of_later_items next opens [] = none
rows_of_later_items next opens (no_item ∷ is) = none
rows_of_later_items next opens (count_item n ∷ []) = cond (eqb n next) (some []) none
rows_of_later_items next opens (count_item n ∷ i ∷ is) = none
rows_of_later_items next opens (element_item number parent e ∷ is) =
    let os = open_from parent opens in
    let later = cons_row (element_row number e (top_row os)) (rows_of_later_items (suc next) (record { row = next; number = number; element = e } ∷ os) is) in
    cond (is_empty os) none later
rows_of_later_items next opens (text_item number parent start size ∷ is) =
    let os = open_from parent opens in
    let later = cons_row (text_row number (top_element os) (top_row os) start size size) (rows_of_later_items (suc next) os is) in
    cond (is_empty os) none later

-- "the root's own is 0"
abbrev pub rows_of_items : List Item → Option (List Row)
rows_of_items [] = none
rows_of_items (no_item ∷ is) = none
rows_of_items (text_item number parent start size ∷ is) = none
rows_of_items (count_item n ∷ []) = cond (eqb n 0) (some []) none
rows_of_items (count_item n ∷ i ∷ is) = none
rows_of_items (element_item number parent e ∷ is) =
    let later = cons_row (element_row number e 0) (rows_of_later_items 1 (record { row = 0; number = number; element = e } ∷ []) is) in
    cond (eqb parent 0) later none

-- 17. "Bytes are no extract of a well-formed table whose texts pass 3."
abbrev pub is_table : Types → List ℕ → Option (List Row) → Bool
is_table s bs none = false
is_table s bs (some rows) = well_formed_with s bs rows

abbrev pub rows_or : Option (List Row) → List Row
rows_or none = []
rows_or (some rows) = rows

-- "An extract has no such limit, and 3 is not tested on it"; a text row read from an extract starts at its bytes in the extract
unfoldable pub read_extract : Types → List ℕ → Outcome (List Row)
read_extract s bs =
    let rows = rows_of_items (items_of bs) in
    judged (given (is_empty bs) (at bad_length 0) ++ given (not (is_table s bs rows)) (at bad_extract 0)) (rows_or rows)
