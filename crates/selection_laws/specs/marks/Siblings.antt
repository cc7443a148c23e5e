-- Siblings by the column of parents: rows that have one parent. Row 0 is the root and has no sibling.
use Rattle.std.specs.Prelude.{Bool, not, ◌&&◌, List, ℕ, eqb, ltb, length, get_or}
use Rattle.cells.specs.row_sets.Columns.{marks, is_marked}
use Rattle.selection_laws.specs.marks.Parents.{reached_by}

-- row r is a sibling of row q, and comes after it
unfoldable pub is_later_sibling : List ℕ → ℕ → ℕ → Bool
is_later_sibling ps q r = not (eqb q 0) && (not (eqb r 0) && (eqb (get_or ps q 0) (get_or ps r 0) && ltb q r))

-- the rows after a marked sibling, and those before one
unfoldable pub following_sibling_marks : List ℕ → List ℕ → List ℕ
following_sibling_marks ps m = marks (length ps) (reached_by (λ q r. is_later_sibling ps q r) (length ps) (is_marked m))

unfoldable pub preceding_sibling_marks : List ℕ → List ℕ → List ℕ
preceding_sibling_marks ps m = marks (length ps) (reached_by (λ q r. is_later_sibling ps r q) (length ps) (is_marked m))
