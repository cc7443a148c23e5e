-- A condition judged for all rows, or none.
use Rattle.std.specs.Prelude.{Bool, true, false, ◌&&◌, List, [], ◌∷◌, ◌≡◌, ℕ, ◌-◌, length}
use Rattle.std.proofs.Math.Bool.{and-true}
use Rattle.std.proofs.Math.Path.{sym, ap}
use Rattle.std.proofs.Common.{◌∙◌, arith}
use Rattle.axis_passes.specs.alternatives.Alternatives.{ConditionPass}
use Rattle.axis_passes.specs.steps.Steps.{MarkColumn, marks-column, union-column, columns-same-length}
use Rattle.axis_passes.specs.declared.scratch.Scratch.{Scratch}
use Rattle.axis_passes.specs.declared.rows.Rows.{Rows}
use Rattle.axis_passes.specs.rows.Rows.{parents_in, names_of}
use Rattle.cells.specs.row_sets.Columns.{is_marked, union, intersection, marks-cong, marks-marked, no-row-marked}
use Rattle.compiled_paths.specs.declared.Step.{Step}
use Rattle.compiled_paths.specs.Steps.{alternatives_in, condition_in, condition-none, condition-some}
use Rattle.path_spec.specs.Paths.{PlainStep, Condition}
use Rattle.schema_spec.specs.Names.{Name}
use Rattle.selection_laws.specs.marks.Passes.{SameLength}
use Rattle.selection_laws.specs.marks.Roots.{intersection-none}
use Rattle.selection_laws.specs.marks.Selection.{no_marks, all_marks, alternative_marks, alternatives_marks, condition_marks}
use Rattle.text_spec.specs.Lists.{any_below}

-- what the pass asks
pub record KeepPass (t : Rows) (first past : ℕ) (m : List ℕ) (s : Scratch) : Type 0 where
  pub condition : ConditionPass t first past s
  pub column : MarkColumn (parents_in t) m

-- ---- columns stay columns
pub alternatives-column : (ps : List ℕ) (ns : List Name) (m : List ℕ) (qs : List (List (PlainStep ℕ))) → MarkColumn ps m → MarkColumn ps (alternatives_marks ps ns m qs)
unfolding alternatives_marks
alternatives-column ps ns m [] c = c
alternatives-column ps ns m (q ∷ qs) c = alternatives-column ps ns (union m (alternative_marks ps ns q)) qs (union-column ps m (alternative_marks ps ns q) c)

-- ---- a condition, or none
module _ (t : Rows) (steps : List Step) (first past : ℕ) (m : List ℕ) (s : Scratch) (h : KeepPass t first past m s) where
  abbrev ps : List ℕ
  ps = parents_in t

  pub condition-columns : (x : List ℕ) → x ≡ alternatives_marks ps (names_of t) (no_marks (length ps)) (alternatives_in steps (past - first) first) → SameLength x m
  condition-columns x e =
      columns-same-length (rw e (alternatives-column ps (names_of t) (no_marks (length ps)) (alternatives_in steps (past - first) first) (marks-column ps (λ r. false)))) h.column

  pub condition-kept : (x y : List ℕ) → (past - first ≡ 0 → ⊥) → x ≡ alternatives_marks ps (names_of t) (no_marks (length ps)) (alternatives_in steps (past - first) first)
      → y ≡ intersection m x → y ≡ intersection m (condition_marks ps (names_of t) (condition_in steps (past - first) first))
  unfolding condition_marks
  condition-kept x y some e d =
      d ∙ ap (intersection m) (e ∙ sym (ap (condition_marks ps (names_of t)) (condition-some steps (past - first) first some)))

  -- no condition keeps every row
  pub all-kept : past - first ≡ 0 → m ≡ intersection m (condition_marks ps (names_of t) (condition_in steps (past - first) first))
  unfolding condition_marks intersection
  all-kept e =
      h.column.marked ∙ marks-cong (length m) (is_marked m) (λ r. is_marked m r && is_marked (all_marks (length ps)) r)
      (λ r l. sym (ap (λ (b : Bool). is_marked m r && b) (marks-marked (length ps) (λ q. true) r (omega (arith, h.column.size))) ∙ and-true (is_marked m r)))
      ∙ sym (ap (λ (c : Condition ℕ). intersection m (condition_marks ps (names_of t) c)) (condition-none steps (past - first) first e))

  -- where no row is marked none is left to keep
  pub none_kept : any_below (length m) (is_marked m) ≡ false → m ≡ intersection m (condition_marks ps (names_of t) (condition_in steps (past - first) first))
  none_kept e =
      let is : m ≡ no_marks (length m) = no-row-marked m h.column.marked e in
      let judged : List ℕ = condition_marks ps (names_of t) (condition_in steps (past - first) first) in
      is ∙ sym (intersection-none (length m) judged) ∙ sym (ap (λ (l : List ℕ). intersection l judged) is)
