-- A table judged in one pass over its columns, row by row. What is carried from row to row: the innermost open element, which is the row
-- before or, where that is a text, its parent; and its depth.
use Rattle.std.specs.Prelude.{Bool, true, false, cond, not, ◌&&◌, List, ℕ, zero, suc, eqb, leb, ltb, get_or}
use Rattle.schema_spec.specs.Names.{has_bit}
use Rattle.table_laws.specs.passes.Climbs.{Climbed, stopped, nowhere, climb}
use Rattle.table_spec.specs.Columns.{Columns, cells_at}
use Rattle.table_spec.specs.Rows.{Cells}
use Rattle.text_spec.specs.Limits.{max_declarations, max_nodes, max_depth, max_text_bytes}

-- ---- one row, its name by its code
abbrev pub is_text_code : ℕ → Bool
is_text_code code = leb max_declarations code

-- the depth of a row, by that of its parent
abbrev pub depth_under : ℕ → ℕ → ℕ
depth_under code depth = cond (is_text_code code) depth (suc depth)

-- "an element .. carries text 0, 0; a text row has length 1 to 4,096"; "an element's decoded length is 0, a text's 1 to its raw length"
abbrev pub text_cells_fit : ℕ → ℕ → ℕ → ℕ → Bool
text_cells_fit code start size decoded =
    cond (is_text_code code) (leb 1 size && (leb size max_text_bytes && (leb 1 decoded && leb decoded size))) (eqb start 0 && (eqb size 0 && eqb decoded 0))

-- row 0
unfoldable pub root_fits : ℕ → ℕ → ℕ → ℕ → ℕ → ℕ → Bool
root_fits number code parent start size decoded = eqb number 0 && (eqb code 0 && (eqb parent 0 && (eqb start 0 && (eqb size 0 && eqb decoded 0))))

-- A later row, after a row with this number that is a text or not, under a parent of this depth which holds the names whose bits a word has.
-- A second text of an element follows on the first.
unfoldable pub later_fits : ℕ → Bool → ℕ → ℕ → ℕ → ℕ → ℕ → ℕ → ℕ → Bool
later_fits before after_text word depth number code start size decoded =
    ltb before number && (ltb number max_nodes
    && (has_bit word code && (leb (depth_under code depth) max_depth && (not (is_text_code code && after_text) && text_cells_fit code start size decoded))))

-- the same by the rows' cells
abbrev pub root_cells : Cells → Bool
root_cells r = root_fits r.number r.name r.parent r.start r.size r.decoded

abbrev pub later_cells : Cells → ℕ → ℕ → Cells → Bool
later_cells before word depth r = later_fits before.number (is_text_code before.name) word depth r.number r.name r.start r.size r.decoded

-- ---- all rows; `words` has for each element the names that it holds
-- the innermost open element after row i, whose parent is row p
abbrev pub open_after : ℕ → ℕ → ℕ → ℕ
open_after code i p = cond (is_text_code code) p i

-- the code and the parent of row i
abbrev pub code_at : Columns → ℕ → ℕ
code_at c i = get_or c.names i 0

abbrev pub parent_at : Columns → ℕ → ℕ
parent_at c i = get_or c.parents i 0

module _ (words : List ℕ) (c : Columns) where
  -- row i + 1, once its parent is found at row p and depth d: it fits, and so do the later ones
  abbrev pub fits_under : ℕ → (ℕ → ℕ → Bool) → Climbed → Bool
  fits_under i later nowhere = false
  fits_under i later (stopped p d) =
      later_cells (cells_at c i) (get_or words (code_at c p) 0) d (cells_at c (suc i)) && later (open_after (code_at c (suc i)) (suc i) p) (depth_under (code_at c (suc i)) d)

  -- the n rows after row i
  abbrev pub later_pass : ℕ → ℕ → ℕ → ℕ → Bool
  later_pass zero i row depth = true
  later_pass (suc n) i row depth = fits_under i (λ p d. later_pass n (suc i) p d) (climb (eqb (parent_at c (suc i))) c.parents row depth)

  -- the first n rows
  unfoldable pub rows_pass : ℕ → Bool
  rows_pass zero = true
  rows_pass (suc n) = root_cells (cells_at c 0) && later_pass n 0 0 1
