-- An extract read in one pass, field by field. What is carried from field to field: how many rows stand before, the number of the row before and
-- whether it is a text, and the open elements, nearest first.
use Rattle.std.specs.Prelude.{Bool, true, false, cond, not, ◌&&◌, List, [], ◌∷◌, ℕ, zero, suc, ◌+◌, ◌-◌, eqb, leb, ltb, length, get_or}
use Rattle.std.proofs.Math.Option.{Option, none, some}
use Rattle.extract_spec.specs.Reading.{Item, element_item, text_item, count_item, no_item, in_two, item_of, Placed, open_from, cons_row, top_row, top_element}
use Rattle.projection_laws.specs.Opens.{placed}
use Rattle.schema_spec.specs.Names.{element, text, same_name}
use Rattle.schema_spec.specs.Types.{Types}
use Rattle.table_spec.specs.Rows.{Row, element_row, text_row}
use Rattle.text_spec.specs.Bytes.{is_foreign}
use Rattle.text_spec.specs.Limits.{max_nodes, max_depth, max_text_bytes}
use Rattle.text_spec.specs.Lists.{all_of, is_empty, part}

pub record State : Type 0 where
  pub rows : ℕ
  pub number : ℕ
  pub after_text : Bool
  pub levels : List Placed

abbrev pub state : ℕ → ℕ → Bool → List Placed → State
state rows number after_text levels = record { rows = rows; number = number; after_text = after_text; levels = levels }

-- what a field says: nothing that may stand here, the end, or a row and what is then carried
pub data Step : Type 0 where
  wrong : Step
  ended : Step
  onward : Row → State → Step

-- "later numbers rise, to 65,534 at most"
abbrev pub number_fits : State → ℕ → Bool
number_fits st number = ltb st.number number && ltb number max_nodes

-- an element under the first of the levels os
abbrev pub element_fits : Types → State → ℕ → List Placed → ℕ → Bool
element_fits s st number os e = number_fits st number && (s.holds (element (top_element os)) (element e) && leb (suc (length os)) max_depth)

-- a text there: an element that holds a text holds no element, so that a second text can only follow on the first
abbrev pub text_fits : Types → List ℕ → State → ℕ → List Placed → ℕ → ℕ → Bool
text_fits s bs st number os start size =
    number_fits st number && (s.holds (element (top_element os)) (text (top_element os)) && (not st.after_text
    && (leb 1 size && (leb size max_text_bytes && all_of (λ b. not (is_foreign b)) (part start size bs)))))

-- a field after the root's; `last`: nothing follows it
unfoldable pub later_step : Types → List ℕ → State → Bool → Item → Step
later_step s bs st last no_item = wrong
later_step s bs st last (count_item n) = cond (last && eqb n st.rows) ended wrong
later_step s bs st last (element_item number parent e) =
    let os = open_from parent st.levels in
    cond (not (is_empty os) && element_fits s st number os e)
    (onward (element_row number e (top_row os)) (state (suc st.rows) number false (placed st.rows number e ∷ os))) wrong
later_step s bs st last (text_item number parent start size) =
    let os = open_from parent st.levels in
    cond (not (is_empty os) && text_fits s bs st number os start size)
    (onward (text_row number (top_element os) (top_row os) start size size) (state (suc st.rows) number true os)) wrong

-- the first field
unfoldable pub root_step : Types → Bool → Item → Step
root_step s last no_item = wrong
root_step s last (text_item number parent start size) = wrong
root_step s last (count_item n) = cond (last && eqb n 0) ended wrong
root_step s last (element_item number parent e) =
    cond (eqb parent 0 && (eqb number 0 && same_name (element e) s.root)) (onward (element_row number e 0) (state 1 number false (placed 0 number e ∷ []))) wrong

-- the rows from a step on
abbrev pub continued : Step → (State → Option (List Row)) → Option (List Row)
continued wrong f = none
continued ended f = some []
continued (onward r st) f = cons_row r (f st)

-- ---- a field by its place
-- its length, the place past it, whether it lies in the extract, what it says
abbrev pub size_at : List ℕ → ℕ → ℕ
size_at bs k = in_two (get_or bs (k + 1) 0) (get_or bs (k + 2) 0)

abbrev pub past_field : List ℕ → ℕ → ℕ
past_field bs k = k + 3 + size_at bs k

unfoldable pub has_field : List ℕ → ℕ → Bool
has_field bs k = leb (k + 3) (length bs) && leb (past_field bs k) (length bs)

unfoldable pub item_at : List ℕ → ℕ → Item
item_at bs k = item_of (get_or bs k 0) (k + 3) (part (k + 3) (size_at bs k) bs)

abbrev pub is_last : List ℕ → ℕ → Bool
is_last bs k = eqb (past_field bs k) (length bs)

-- the step of the field at a place
unfoldable pub step_at : Types → List ℕ → ℕ → State → Step
step_at s bs k st = cond (has_field bs k) (later_step s bs st (is_last bs k) (item_at bs k)) wrong

unfoldable pub first_step : Types → List ℕ → Step
first_step s bs = cond (has_field bs 0) (root_step s (is_last bs 0) (item_at bs 0)) wrong

-- the rows of the fields from a place on, where there are at most `fuel` bytes
unfoldable pub rows_from : Types → List ℕ → ℕ → ℕ → State → Option (List Row)
rows_from s bs zero k st = none
rows_from s bs (suc fuel) k st = continued (step_at s bs k st) (rows_from s bs fuel (past_field bs k))

unfoldable pub rows_in : Types → List ℕ → Option (List Row)
rows_in s bs = continued (first_step s bs) (rows_from s bs (length bs - 1) (past_field bs 0))

-- ---- the same over items
unfoldable pub later_items : Types → List ℕ → State → List Item → Option (List Row)
later_items s bs st [] = none
later_items s bs st (i ∷ is) = continued (later_step s bs st (is_empty is) i) (λ t. later_items s bs t is)

unfoldable pub table_items : Types → List ℕ → List Item → Option (List Row)
table_items s bs [] = none
table_items s bs (i ∷ is) = continued (root_step s (is_empty is) i) (λ t. later_items s bs t is)
