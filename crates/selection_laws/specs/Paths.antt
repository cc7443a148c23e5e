-- What is selected on the columns of a well-formed table is what the definition selects, whatever text is lent.
use Rattle.std.proofs.Math.Bool.{Bool, false, and_assoc}
use Rattle.std.specs.Prelude.{◌&&◌, ◌≡◌, ℕ, T, length}
use mathlib.Core.List.{List, [], ◌∷◌, map}
use Rattle.std.proofs.Common.{⊎_elim, sym, ◌∙◌, eq-or-lt_of_le, arith, eq-eqb, ne_eqb}
use Rattle.std.proofs.Math.Path.{refl, ap}
use Rattle.std.proofs.Math.Dec.{eqb}
use Rattle.std.proofs.Math.ListN.{get_elem?}
use Rattle.cells.specs.row_sets.Columns.{intersection, picked}
use Rattle.path_spec.specs.Paths.{WrittenStep, Condition, Start, root_element, LocationPath}
use Rattle.path_spec.specs.Selection.{passes, on_written, step_from, path_from, holds_at, start_nodes, selected, select, select_rows}
use Rattle.schema_spec.specs.Names.{Name}
use Rattle.schema_spec.specs.Types.{Types}
use Rattle.selection_laws.specs.Conditions.{condition-marked}
use Rattle.selection_laws.specs.Marked.{Marked, marked-picked, map-picked, rows-marked, intersection-marked, same-marked, test-marked, written-marked}
use Rattle.selection_laws.specs.marks.Selection.{written_marks, test_marks, condition_marks, step_marks, steps_marks, root_marks, start_marks, path_marks, select_columns}
use Rattle.table_laws.specs.Columns.{parents_of, names_of, numbers_of}
use Rattle.table_laws.specs.Parents.{NodeAt, ChildOf, child-of, Placed, nodes-placed, nodes-numbered, nodes-named}
use Rattle.table_spec.specs.Nodes.{Node, node_number, name_of, is_top, nodes_of}
use Rattle.table_spec.specs.Rows.{Row}
use Rattle.table_spec.specs.Tables.{well_formed}
use Rattle.text_laws.specs.Tests.{true_of}
use Rattle.text_spec.specs.Lists.{any_of}

module _ (ps : List ℕ) (doc : List Node) (tree : Placed ps doc) where
  -- the nodes that a step leads to from those at marked rows are at the rows that the step marks
  pub step-marked : (p : WrittenStep ℕ (Condition ℕ)) (m : List ℕ) → length m ≡ length doc
      → (step_from holds_at doc p (picked m doc) ≡ picked (step_marks ps (map name_of doc) p m) doc) × (length (step_marks ps (map name_of doc) p m) ≡ length doc)
  unfolding step_marks
  step-marked p m e = (marked-picked doc (λ y. reached y && (tested y && held y)) out whole, whole.size)
    where
      reached : Node → Bool
      reached y = any_of (λ x. on_written p.axis x y) (picked m doc)

      tested : Node → Bool
      tested y = passes p.test (name_of y)

      held : Node → Bool
      held y = holds_at doc p.condition y

      out : List ℕ
      out = intersection (intersection (written_marks p.axis ps m) (test_marks p.test (map name_of doc))) (condition_marks ps (map name_of doc) p.condition)

      whole : Marked doc (λ y. reached y && (tested y && held y)) out
      whole =
          same-marked doc (λ y. (reached y && tested y) && held y) (λ y. reached y && (tested y && held y)) out (λ r y a. and_assoc (reached y) (tested y) (held y))
          (intersection-marked doc (λ y. reached y && tested y) held (intersection (written_marks p.axis ps m) (test_marks p.test (map name_of doc))) (condition_marks ps (map name_of doc) p.condition)
          (intersection-marked doc reached tested (written_marks p.axis ps m) (test_marks p.test (map name_of doc)) (written-marked ps doc tree p.axis m e) (test-marked p.test doc))
          (condition-marked ps doc tree p.condition))

  pub steps-marked : (path : List (WrittenStep ℕ (Condition ℕ))) (m : List ℕ) → length m ≡ length doc
      → path_from holds_at doc path (picked m doc) ≡ picked (steps_marks ps (map name_of doc) path m) doc
  unfolding steps_marks
  steps-marked [] m e = refl
  steps-marked (p ∷ path) m e =
      let s = step-marked p m e in
      ap (path_from holds_at doc path) s.0 ∙ steps-marked path (step_marks ps (map name_of doc) p m) s.1

  root-marked : Marked doc is_top (root_marks (length ps))
  unfolding root_marks
  root-marked = rows-marked doc (length ps) (λ r. eqb r 0) is_top (sym tree.size) row
    where
      child-test : (p : ℕ) (y : Node) → ChildOf doc p y → false ≡ is_top y
      child-test p y (child-of a) = refl

      row : (r : ℕ) (y : Node) → NodeAt doc r y → eqb r 0 ≡ is_top y
      row r y a =
          ⊎_elim (λ e. eq-eqb r 0 (sym e) ∙ sym (true_of (is_top y) (tree.root y (ap (get_elem? doc) e ∙ a))))
          (λ p. ne_eqb r 0 (λ e. omega arith) ∙ child-test _ y (tree.later r y p a)) (eq-or-lt_of_le {n = 0} (omega arith))

  start-marked : (a : Start) → (start_nodes a doc ≡ picked (start_marks a (length ps)) doc) × (length (start_marks a (length ps)) ≡ length doc)
  start-marked root_element = (marked-picked doc is_top (root_marks (length ps)) root-marked, root-marked.size)

  pub selected-marked : (p : LocationPath ℕ) → selected doc p ≡ picked (path_marks ps (map name_of doc) p) doc
  unfolding selected path_marks
  selected-marked p =
      let s = start-marked p.start in
      ap (path_from holds_at doc p.steps) s.0 ∙ steps-marked p.steps (start_marks p.start (length ps)) s.1

-- ---- a table
pub select-columns : (s : Types) (lent : List ℕ) (rows : List Row) (p : LocationPath ℕ) → T (well_formed s rows)
    → select_rows lent rows p ≡ select_columns (parents_of rows) (names_of rows) (numbers_of rows) p
unfolding select_rows select select_columns
select-columns s lent rows p ok =
    let ps = parents_of rows in
    let doc = nodes_of lent rows in
    ap (map node_number) (selected-marked ps doc (nodes-placed s lent rows ok) p)
    ∙ map-picked node_number (path_marks ps (map name_of doc) p) doc
    ∙ ap (λ (k : List ℕ). picked (path_marks ps (map name_of doc) p) k) (nodes-numbered lent rows)
    ∙ ap (λ (l : List Name). picked (path_marks ps l p) (numbers_of rows)) (nodes-named lent rows)

-- what a path selects does not depend on the texts
pub select-textless : (s : Types) (lent : List ℕ) (rows : List Row) (p : LocationPath ℕ) → T (well_formed s rows) → select_rows lent rows p ≡ select_rows [] rows p
select-textless s lent rows p ok = select-columns s lent rows p ok ∙ sym (select-columns s [] rows p ok)
