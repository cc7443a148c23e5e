-- A row's field and what the reader makes of it: one choice by the row's name.
use Rattle.std.specs.Prelude.{List, [], ◌∷◌, ◌++◌, ◌≡◌, refl, ℕ, suc, ◌+◌, ◌<◌, length}
use Rattle.std.proofs.Math.Option.{some}
use Rattle.std.proofs.Math.ListN.{get_elem?}
use Rattle.extract_spec.specs.Fields.{count_tag, two_bytes, field, row_field, number_at, field_of, start_at}
use Rattle.extract_spec.specs.Reading.{Item, element_item, text_item, items_from, Placed, open_from, rows_of_later_items, rows_of_items}
use Rattle.projection_laws.specs.Fields.{element-read, text-read}
use Rattle.projection_laws.specs.Opens.{placed}
use Rattle.schema_spec.specs.Names.{element, text, Name}
use Rattle.table_spec.specs.Rows.{Row, row}
use Rattle.text_spec.specs.Lists.{gather}

-- What a row's field says, the row that is read from it, and the rows that are then open: one choice by the name.
abbrev pub item_at : Name → ℕ → ℕ → ℕ → ℕ → Item
item_at (element e) k number parent size = element_item number parent e
item_at (text e) k number parent size = text_item number parent (k + 3 + 4) size

abbrev pub size_at : Name → ℕ → ℕ
size_at (element e) size = 0
size_at (text e) size = size

abbrev pub opens_after : Name → ℕ → ℕ → List Placed → List Placed
opens_after (element e) next number os = placed next number e ∷ os
opens_after (text e) next number os = os

abbrev pub row_at : Name → ℕ → ℕ → ℕ → ℕ → Row
row_at n k number parent size = row number n parent (start_at n k) (size_at n size) (size_at n size)

-- a row's field read, and what follows it
pub field-item : (n : Name) (fuel k number parent : ℕ) (w rest : List ℕ) → number < 65536 → parent < 65536 → length w < 65532
    → items_from (suc fuel) k (row_field n number parent w ++ rest)
    ≡ item_at n k number parent (length w) ∷ items_from fuel (k + length (row_field n number parent w)) rest
field-item (element e) fuel k number parent w rest p q h = element-read fuel k number parent e w rest p q
field-item (text e) fuel k number parent w rest p q h = text-read fuel k number parent e w rest p q h

-- an item turned into a row under an open one, and the root's item into the root
pub item-row : (n : Name) (k number parent size next : ℕ) (os : List Placed) (q : Placed) (qs : List Placed) (is : List Item) (rs : List Row)
    → open_from parent os ≡ q ∷ qs → ((e : ℕ) → n ≡ text e → q.element ≡ e) → rows_of_later_items (suc next) (opens_after n next number (q ∷ qs)) is ≡ some rs
    → rows_of_later_items next os (item_at n k number parent size ∷ is) ≡ some (row_at n k number q.row size ∷ rs)
item-row (element e) k number parent size next os q qs is rs f named later = rw (f, later)
item-row (text e) k number parent size next os q qs is rs f named later = rw (f, later, named e refl)

pub root-item : (n : Name) (e k number parent size : ℕ) (is : List Item) (rs : List Row) → n ≡ element e → parent ≡ 0
    → rows_of_later_items 1 (placed 0 number e ∷ []) is ≡ some rs
    → rows_of_items (item_at n k number parent size ∷ is) ≡ some (row_at n k number 0 size ∷ rs)
root-item n e k number parent size is rs q z later = rw (q, z, later)

-- the number that a row's field has for its parent
abbrev pub parent_number : List Row → Row → ℕ
parent_number all r = number_at (get_elem? all r.parent)

-- the fields of the last rows of a table, and the count of all
abbrev pub rest_written : List ℕ → List Row → List Row → List ℕ
rest_written lent all rs = gather (field_of lent all) rs ++ field count_tag (two_bytes (length all))
