-- The rows that the code marks on the columns of a well-formed table are those that the path selects, in document order.
use Rattle.std.specs.Prelude.{Bool, cond, List, [], ◌∷◌, ◌≡◌, refl, ℕ, ◌+◌, ◌-◌, T}
use mathlib.Core.List.Memᴰ.{head as here}
use mathlib.Core.List.Memᴰ.{tail as there}
use Rattle.std.proofs.Common.{sym, ap, ◌∙◌, arith, lt-ltb, le-ltb}
use Rattle.axis_passes.specs.name_tests.Tests.{name_with_code, names_in}
use Rattle.cells.specs.row_sets.Columns.{picked}
use Rattle.path_spec.specs.Paths.{LocationPath}
use Rattle.path_spec.specs.Selection.{select_rows}
use Rattle.schema_spec.specs.Names.{Name, element, text, code_of}
use Rattle.schema_spec.specs.Types.{Types}
use Rattle.selection_laws.specs.Paths.{select-columns}
use Rattle.selection_laws.specs.marks.Selection.{path_marks, select_columns}
use Rattle.table_laws.specs.Codes.{HasCode, NamesCoded}
use Rattle.table_laws.specs.Columns.{parents_of, names_of, numbers_of, codes_of}
use Rattle.table_spec.specs.Rows.{Row}
use Rattle.table_spec.specs.Tables.{well_formed}
use Rattle.text_spec.specs.Limits.{max_declarations}

-- ---- names and their codes
name-of-code : (n : Name) → HasCode n → name_with_code (code_of n) ≡ n
unfolding name_with_code
name-of-code (element e) h = ap (λ (b : Bool). cond b (element e) (text (e - max_declarations))) (lt-ltb e max_declarations h)
name-of-code (text e) h =
    let z : max_declarations + e - max_declarations ≡ e = omega arith in
    ap (λ (b : Bool). cond b (element (max_declarations + e)) (text (max_declarations + e - max_declarations))) (le-ltb (max_declarations + e) max_declarations (omega arith)) ∙ ap text z

names-decoded : (rows : List Row) → NamesCoded rows → names_in (codes_of rows) ≡ names_of rows
names-decoded [] h = refl
names-decoded (r ∷ rows) h =
    ap (λ (n : Name). n ∷ names_in (codes_of rows)) (name-of-code r.name (h r (here refl)))
    ∙ ap (λ (l : List Name). r.name ∷ l) (names-decoded rows (λ q i. h q (there i)))

-- the numbers at the rows that the path's column marks are what the path selects, whatever text is lent
pub marked-selected : (s : Types) (lent : List ℕ) (rows : List Row) (p : LocationPath ℕ) → T (well_formed s rows) → NamesCoded rows
    → picked (path_marks (parents_of rows) (names_in (codes_of rows)) p) (numbers_of rows) ≡ select_rows lent rows p
unfolding select_columns
marked-selected s lent rows p ok coded =
    ap (λ (ns : List Name). picked (path_marks (parents_of rows) ns p) (numbers_of rows)) (names-decoded rows coded) ∙ sym (select-columns s lent rows p ok)
