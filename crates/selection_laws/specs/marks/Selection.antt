-- A path on the columns of a table: a step at a time for all rows at once, a condition from its last step back by inverse axes.
use Rattle.std.specs.Prelude.{true, false, List, [], ◌∷◌, map, ℕ, eqb, length}
use Rattle.cells.specs.row_sets.Columns.{mark, marks, union, intersection, picked}
use Rattle.path_laws.specs.Inverses.{inverse_written}
use Rattle.path_spec.specs.Paths.{descendant_or_self, ancestor_or_self, WrittenAxis, along, following, following_sibling, preceding, preceding_sibling, NodeTest, WrittenStep, PlainStep, Condition, unconditional, alternatives, Start, root_element, LocationPath}
use Rattle.path_spec.specs.Selection.{passes}
use Rattle.schema_spec.specs.Names.{Name}
use Rattle.selection_laws.specs.marks.Parents.{image_marks}
use Rattle.selection_laws.specs.marks.Siblings.{following_sibling_marks, preceding_sibling_marks}

-- the rows on a written axis from the marked ones, and those from which it leads to a marked one
abbrev pub written_marks : WrittenAxis → List ℕ → List ℕ → List ℕ
written_marks (along a) ps m = image_marks a ps m
written_marks following ps m = image_marks descendant_or_self ps (following_sibling_marks ps (image_marks ancestor_or_self ps m))
written_marks following_sibling ps m = following_sibling_marks ps m
written_marks preceding ps m = image_marks descendant_or_self ps (preceding_sibling_marks ps (image_marks ancestor_or_self ps m))
written_marks preceding_sibling ps m = preceding_sibling_marks ps m

abbrev pub inverse_marks : WrittenAxis → List ℕ → List ℕ → List ℕ
inverse_marks a ps m = written_marks (inverse_written a) ps m

-- no row and every row
abbrev pub no_marks : ℕ → List ℕ
no_marks n = marks n (λ r. false)

abbrev pub all_marks : ℕ → List ℕ
all_marks n = marks n (λ r. true)

-- the rows whose names pass a test
unfoldable pub test_marks : NodeTest ℕ → List Name → List ℕ
test_marks t ns = map (λ n. mark (passes t n)) ns

module _ (ps : List ℕ) (ns : List Name) where
  -- the rows from which the steps of an alternative lead to some row
  unfoldable pub alternative_marks : List (PlainStep ℕ) → List ℕ
  alternative_marks [] = all_marks (length ps)
  alternative_marks (q ∷ qs) = inverse_marks q.axis ps (intersection (alternative_marks qs) (test_marks q.test ns))

  -- the marked rows, and those from which one of the alternatives leads to some row
  unfoldable pub alternatives_marks : List ℕ → List (List (PlainStep ℕ)) → List ℕ
  alternatives_marks m [] = m
  alternatives_marks m (q ∷ qs) = alternatives_marks (union m (alternative_marks q)) qs

  -- the rows where a condition holds
  unfoldable pub condition_marks : Condition ℕ → List ℕ
  condition_marks unconditional = all_marks (length ps)
  condition_marks (alternatives qs) = alternatives_marks (no_marks (length ps)) qs

  unfoldable pub step_marks : WrittenStep ℕ (Condition ℕ) → List ℕ → List ℕ
  step_marks p m = intersection (intersection (written_marks p.axis ps m) (test_marks p.test ns)) (condition_marks p.condition)

  unfoldable pub steps_marks : List (WrittenStep ℕ (Condition ℕ)) → List ℕ → List ℕ
  steps_marks [] m = m
  steps_marks (p ∷ path) m = steps_marks path (step_marks p m)

unfoldable pub root_marks : ℕ → List ℕ
root_marks n = marks n (λ r. eqb r 0)

-- the rows that a path starts from
abbrev pub start_marks : Start → ℕ → List ℕ
start_marks root_element n = root_marks n

unfoldable pub path_marks : List ℕ → List Name → LocationPath ℕ → List ℕ
path_marks ps ns p = steps_marks ps ns p.steps (start_marks p.start (length ps))

-- the numbers that a path selects on the columns of a table
unfoldable pub select_columns : List ℕ → List Name → List ℕ → LocationPath ℕ → List ℕ
select_columns ps ns numbers p = picked (path_marks ps ns p) numbers
