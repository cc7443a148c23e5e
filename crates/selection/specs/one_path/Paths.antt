-- What one compiled path selects on the columns of a table.
use Rattle.std.specs.Prelude.{Bool, true, false, cond, List, [], ◌∷◌, ◌≡◌, refl, ℕ, zero, suc, ◌*◌, ◌≤◌, eqb, length}
use Rattle.std.proofs.Common.{sym, ◌∙◌, arith}
use Rattle.axis_passes.specs.steps.Steps.{MarkColumn}
use Rattle.axis_passes.specs.steps.Tests.{names_in}
use Rattle.axis_passes.specs.declared.rows.Rows.{Rows}
use Rattle.axis_passes.specs.declared.scratch.Scratch.{Scratch}
use Rattle.axis_passes.specs.rows.Rows.{parents_in, codes_in, names_of, HeldTexts}
use Rattle.axis_passes.specs.scratch.Scratch.{Room}
use Rattle.axis_passes.specs.written_steps.Steps.{step-column}
use Rattle.cells.specs.lent.Appended.{Appended}
use Rattle.cells.specs.row_sets.Columns.{picked}
use Rattle.compiled_paths.specs.declared.Step.{Step}
use Rattle.compiled_paths.specs.Steps.{steps_in, size_at, start_at, path_at, bundle_in}
use Rattle.compiled_paths.specs.declared.CompiledPaths.{CompiledPaths}
use Rattle.path_spec.specs.Paths.{LocationPath}
use Rattle.selection_laws.specs.marks.Selection.{steps_marks, path_marks, root_marks, select_columns}
use Rattle.selection.specs.Steps.{PathRanges, PathPass, root-column}
use Rattle.selection.specs.row_numbers.Cells.{AppendPass}
use Rattle.table_laws.specs.Columns.{TestedColumns}
use Rattle.text_spec.specs.Limits.{max_nodes, max_paths}

-- the path i, and n paths from i on
abbrev pub path_in : CompiledPaths → ℕ → LocationPath ℕ
path_in c i = path_at c.steps c.conditions c.paths i

abbrev pub paths_from : CompiledPaths → ℕ → ℕ → List (LocationPath ℕ)
paths_from c n i = bundle_in c.steps c.conditions c.paths n i

-- ---- what selecting asks
pub record OnePass (t : Rows) (c : CompiledPaths) (i at : ℕ) (m : List ℕ) (s : Scratch) : Type 0 where
  pub ranges : PathRanges c i
  pub columns : TestedColumns t.columns.numbers.now (codes_in t) (parents_in t)
  pub texts : HeldTexts t
  pub low : at ≤ max_paths * max_nodes
  pub room-marks : length m ≡ length (parents_in t)
  pub room : Room (parents_in t) s

-- ---- one path
steps-column : (ps codes : List ℕ) (steps : List Step) (conditions : List ℕ) (n k : ℕ) (m : List ℕ) → MarkColumn ps m
    → MarkColumn ps (steps_marks ps (names_in codes) (steps_in steps conditions n k) m)
unfolding steps_marks steps_in
steps-column ps codes steps conditions zero k m c = c
steps-column ps codes steps conditions (suc n) k m c = steps-column ps codes steps conditions n (suc k) _ (step-column ps codes steps conditions k m _ c refl)

path-column : (c : CompiledPaths) (i : ℕ) (ps codes : List ℕ) → MarkColumn ps (path_marks ps (names_in codes) (path_in c i))
unfolding path_marks
path-column c i ps codes =
    steps-column ps codes c.steps c.conditions (size_at c.paths i) (start_at c.paths i) (root_marks (length ps)) (root-column ps)

nothing-at : (m xs : List ℕ) → length xs ≡ 0 → picked m xs ≡ []
unfolding picked
nothing-at m [] e = refl
nothing-at m (x ∷ xs) e = absurd (omega arith)

pub picked-few : (m xs : List ℕ) → length (picked m xs) ≤ length xs
unfolding picked
picked-few m [] = omega arith
picked-few [] (x ∷ xs) = omega arith
picked-few (b ∷ m) (x ∷ xs) = pick (eqb b 1) (picked-few m xs)
  where
    pick : (t : Bool) → length (picked m xs) ≤ length xs → length (cond t (x ∷ picked m xs) (picked m xs)) ≤ suc (length xs)
    pick true h = omega arith
    pick false h = omega arith

pub selected-few : (ps codes numbers : List ℕ) (p : LocationPath ℕ) → length (select_columns ps (names_in codes) numbers p) ≤ length numbers
unfolding select_columns
selected-few ps codes numbers p = picked-few (path_marks ps (names_in codes) p) numbers

module _ (t : Rows) (c : CompiledPaths) (i at : ℕ) (m : List ℕ) (s : Scratch) (h : OnePass t c i at m s) where
  pub one-path : (length (parents_in t) ≡ 0 → ⊥) → PathPass t c i m s
  one-path some =
      record {
        ranges = h.ranges;
        table = record { before = h.columns.before; filled = omega arith; size = h.columns.names-size; coded = h.columns.coded };
        texts = h.texts;
        room-marks = h.room-marks;
        room = h.room;
      }

  pub one-append : (x : List ℕ) → x ≡ path_marks (parents_in t) (names_of t) (path_in c i) → AppendPass t.columns.numbers.now x at
  one-append x e =
      let k : MarkColumn (parents_in t) x = rw e (path-column c i (parents_in t) (codes_in t)) in
      record { marked = k.marked; size = k.size ∙ sym h.columns.numbers-size; few = omega (arith, k.size, h.columns.few); low = h.low }

  pub one_selected : (x was out : List ℕ) (n : ℕ) → x ≡ path_marks (parents_in t) (names_of t) (path_in c i) → Appended was at (picked x t.columns.numbers.now) n out
      → Appended was at (select_columns (parents_in t) (names_of t) t.columns.numbers.now (path_in c i)) n out
  unfolding select_columns
  one_selected x was out n e a = rw (← e) a

  -- on an empty table nothing is selected
  pub none-selected : (was : List ℕ) → length (parents_in t) ≡ 0 → Appended was at (select_columns (parents_in t) (names_of t) t.columns.numbers.now (path_in c i)) at was
  unfolding select_columns
  none-selected was e =
      rw (nothing-at (path_marks (parents_in t) (names_of t) (path_in c i)) t.columns.numbers.now (h.columns.numbers-size ∙ e))
      (record { long = refl; count = omega arith; kept = λ k l. refl; cells = λ k l b. absurd (omega arith) })
