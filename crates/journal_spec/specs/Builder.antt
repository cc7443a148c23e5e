-- Events turned into rows, with what breaks nesting (12, 13) and what is invalid or too much (14 to 16).
use Rattle.std.specs.Prelude.{Bool, true, false, cond, not, ◌||◌, List, [], ◌∷◌, ◌++◌, ℕ, suc, ◌-◌, eqb, leb, ltb, length}
use Rattle.std.proofs.Math.Option.{Option, none, some}
use Rattle.schema_spec.specs.Models.{Content, empty, pcdata, children, Progress, started, advance, complete}
use Rattle.schema_spec.specs.Schemas.{Schema, element_named, content_at}
use Rattle.table_spec.specs.Rows.{Row, element_row, text_row}
use Rattle.text_spec.specs.Limits.{max_depth, max_nodes, max_text_bytes}
use Rattle.text_spec.specs.Lists.{is_empty, is_none, value_or, same_bytes}
use Rattle.text_spec.specs.Refusals.{Refusal, at, given, bad_nesting, over_depth, undeclared_element, bad_content, over_node_limit}
use Rattle.token_spec.specs.Lexer.{Event, quiet, starts, empties, ends, runs, Run}

-- what an open element has got of its content
pub data Filling : Type 0 where
  -- an undeclared element: refusal 14 applies, and its content is not judged
  unjudged : Filling
  -- content that does not fit
  misfit : Filling
  -- nothing, in an element declared `EMPTY`
  unfilled : Filling
  -- only character data, in `(#PCDATA)`
  filled_by_text : ℕ → Filling
  -- children so far
  filled_by_children : Progress → Filling

abbrev pub filling_of : ℕ → Content ℕ → Filling
filling_of e empty = unfilled
filling_of e pcdata = filled_by_text e
filling_of e (children p) = filled_by_children (started p)

-- one child element more
abbrev pub with_child : Option ℕ → Filling → Filling
with_child e unjudged = unjudged
with_child e misfit = misfit
with_child e unfilled = misfit
with_child e (filled_by_text o) = misfit
with_child none (filled_by_children q) = misfit
with_child (some a) (filled_by_children q) = filled_by_children (advance q a)

-- one run of character data more, which may be only blanks
abbrev pub with_run : Bool → Filling → Filling
with_run blanks unjudged = unjudged
with_run blanks misfit = misfit
with_run blanks unfilled = misfit
with_run blanks (filled_by_text o) = filled_by_text o
with_run true (filled_by_children q) = filled_by_children q
with_run false (filled_by_children q) = misfit

abbrev pub fits_at_end : Filling → Bool
fits_at_end unjudged = true
fits_at_end misfit = false
fits_at_end unfilled = true
fits_at_end (filled_by_text o) = true
fits_at_end (filled_by_children q) = complete q

-- an open element: its name, the place of its start tag, its row, its content so far
pub record Open : Type 0 where
  pub name : List ℕ
  pub place : ℕ
  pub row : ℕ
  pub filling : Filling

pub record Building : Type 0 where
  -- the open elements, the innermost first
  pub opens : List Open
  -- the root has begun
  pub rooted : Bool
  -- 12 or 13: from then on nothing more is judged
  pub broken : Option Refusal
  -- 14 to 16, in any order
  pub faults : List Refusal
  -- the rows so far, the last first, and how many
  pub rows : List Row
  pub count : ℕ

abbrev pub building : List Open → Bool → List Refusal → List Row → ℕ → Building
building os rooted fs rs n = record { opens = os; rooted = rooted; broken = none; faults = fs; rows = rs; count = n }

abbrev pub breaks : Refusal → Building → Building
breaks f b = record { opens = b.opens; rooted = b.rooted; broken = some f; faults = b.faults; rows = b.rows; count = b.count }

abbrev pub parent_row : List Open → ℕ
parent_row [] = 0
parent_row (o ∷ os) = o.row

abbrev pub refill : (Filling → Filling) → List Open → List Open
refill f [] = []
refill f (o ∷ os) = record { name = o.name; place = o.place; row = o.row; filling = f o.filling } ∷ os

abbrev pub filling_for : Schema → Option ℕ → Filling
filling_for s none = unjudged
filling_for s (some e) = filling_of e (content_at s e)

-- 15 for the root: a declared element that is not the schema's first
abbrev pub wrong_root : List Open → Option ℕ → Bool
wrong_root [] none = false
wrong_root [] (some e) = not (eqb e 0)
wrong_root (o ∷ os) e = false

-- an element begins
abbrev pub begin : Schema → List ℕ → ℕ → Building → Building
begin s n k b =
    let e = element_named s n in
    building
    (record { name = n; place = k; row = b.count; filling = filling_for s e } ∷ refill (with_child e) b.opens)
    true
    (given (is_none e) (at undeclared_element k) ++ (given (wrong_root b.opens e) (at bad_content k) ++ (given (leb max_nodes b.count) (at over_node_limit k) ++ b.faults)))
    (element_row b.count (value_or 0 e) (parent_row b.opens) ∷ b.rows)
    (suc b.count)

abbrev pub on_start : Schema → List ℕ → ℕ → Building → Building
on_start s n k b =
    cond (is_empty b.opens)
    (cond b.rooted (breaks (at bad_nesting k) b) (begin s n k b))
    (cond (leb max_depth (length b.opens)) (breaks (at over_depth k) b) (begin s n k b))

abbrev pub end_of : List Open → List ℕ → ℕ → Building → Building
end_of [] n k b = breaks (at bad_nesting k) b
end_of (o ∷ os) n k b =
    cond (same_bytes n o.name)
    (building os b.rooted (given (not (fits_at_end o.filling)) (at bad_content o.place) ++ b.faults) b.rows b.count)
    (breaks (at bad_nesting k) b)

abbrev pub on_end : List ℕ → ℕ → Building → Building
on_end n k b = end_of b.opens n k b

-- outside the root: "only blanks"
abbrev pub outside : Option ℕ → Building → Building
outside none b = b
outside (some k) b = breaks (at bad_nesting k) b

-- "in `(#PCDATA)` the whole non-empty text is one node". Its decoded length is what its entities leave of its length; "The 4,096 limit still counts raw bytes"
-- (document 02, R-2).
abbrev pub text_node : Filling → Run → ℕ → ℕ → Building → Building
text_node (filled_by_text e) r size parent b =
    building b.opens b.rooted
    (given (ltb max_text_bytes size || leb max_nodes b.count) (at over_node_limit r.start) ++ b.faults)
    (text_row b.count e parent r.start size (size - r.saved) ∷ b.rows)
    (suc b.count)
text_node unjudged r size parent b = b
text_node misfit r size parent b = b
text_node unfilled r size parent b = b
text_node (filled_by_children q) r size parent b = b

abbrev pub inside : List Open → Run → ℕ → Building → Building
inside [] r size b = outside r.solid b
inside (o ∷ os) r size b =
    text_node o.filling r size o.row
    (building (refill (with_run (is_none r.solid)) (o ∷ os)) b.rooted b.faults b.rows b.count)

abbrev pub on_run : Run → ℕ → Building → Building
on_run r size b = inside b.opens r size b

abbrev pub on_unbroken : Schema → Event → Building → Building
on_unbroken s quiet b = b
on_unbroken s (starts n k) b = on_start s n k b
on_unbroken s (ends n k) b = on_end n k b
on_unbroken s (empties n k) b =
    let c = on_start s n k b in
    cond (is_none c.broken) (on_end n k c) c
on_unbroken s (runs r size) b = on_run r size b

-- "Nothing from the first tag that opens depth 65 on counts here", and after 12 nothing more can: after 12 or 13 no event does
unfoldable pub on_event : Schema → Event → Building → Building
on_event s e b = cond (is_none b.broken) (on_unbroken s e b) b
