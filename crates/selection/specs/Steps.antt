-- The steps of a compiled path, one after the other from the root.
use Rattle.std.specs.Prelude.{false, ◌≡◌, eqb, length}
use mathlib.Core.List.{List}
use Rattle.std.proofs.Math.Path.{refl, sym, ap}
use Rattle.std.proofs.Common.{◌∙◌, ap₂, add-one}
use Prim.Native.Nat.{ℕ, suc, ◌+◌, ◌-◌, ◌<◌, ◌≤◌}
use native.Mathlib.Omega.{arith}
use Rattle.axis_passes.specs.declared.rows.Rows.{Rows}
use Rattle.axis_passes.specs.declared.scratch.Scratch.{Scratch}
use Rattle.axis_passes.specs.rows.Rows.{parents_in, codes_in, names_of, HeldTexts}
use Rattle.axis_passes.specs.scratch.Scratch.{Room, Kept, room-kept, kept-kept}
use Rattle.axis_passes.specs.steps.Steps.{TableColumns, MarkColumn, marks-column}
use Rattle.axis_passes.specs.written_steps.Steps.{StepAtPass, FirstAtPass, step-column}
use Rattle.cells.specs.row_sets.Columns.{is_marked, no-row-marked}
use Rattle.compiled_paths.specs.Paths.{AtMost, Shaped}
use Rattle.compiled_paths.specs.Sizes.{written_steps, all_steps}
use Rattle.compiled_paths.specs.Steps.{start_at, end_at, size_at, step_at, steps_in, path_at}
use Rattle.compiled_paths.specs.declared.CompiledPaths.{CompiledPaths}
use Rattle.selection_laws.specs.marks.Roots.{steps-none}
use Rattle.selection_laws.specs.marks.Selection.{no_marks, step_marks, steps_marks, root_marks, path_marks}
use Rattle.text_spec.specs.Limits.{max_paths}
use Rattle.text_spec.specs.Lists.{any_below}

-- ---- what the passes ask
pub record StepsPass (t : Rows) (c : CompiledPaths) (first past : ℕ) (m : List ℕ) (s : Scratch) : Type 0 where
  pub table : TableColumns (parents_in t) (codes_in t)
  pub texts : HeldTexts t
  pub ordered : first ≤ past
  pub inside : past ≤ written_steps
  pub condition-starts : AtMost all_steps c.conditions
  pub column : MarkColumn (parents_in t) m
  pub room : Room (parents_in t) s

pub record RootStepsPass (t : Rows) (c : CompiledPaths) (first past : ℕ) (m : List ℕ) (s : Scratch) : Type 0 where
  pub table : TableColumns (parents_in t) (codes_in t)
  pub texts : HeldTexts t
  pub ordered : first ≤ past
  pub inside : past ≤ written_steps
  pub condition-starts : AtMost all_steps c.conditions
  pub room-marks : length m ≡ length (parents_in t)
  pub room : Room (parents_in t) s

-- the ranges of a path's steps and of their conditions end within the steps
pub record PathRanges (c : CompiledPaths) (i : ℕ) : Type 0 where
  pub inside : i < max_paths
  pub paths-in : AtMost written_steps c.paths
  pub conditions-in : AtMost all_steps c.conditions

pub record PathPass (t : Rows) (c : CompiledPaths) (i : ℕ) (m : List ℕ) (s : Scratch) : Type 0 where
  pub ranges : PathRanges c i
  pub table : TableColumns (parents_in t) (codes_in t)
  pub texts : HeldTexts t
  pub room-marks : length m ≡ length (parents_in t)
  pub room : Room (parents_in t) s

-- ---- all steps, those before k behind the loop
pub record StepsSoFar (t : Rows) (c : CompiledPaths) (first past : ℕ) (m₀ : List ℕ) (k : ℕ) (m : List ℕ) (old s : Scratch) : Type 0 where
  pub low : first ≤ k
  pub high : k ≤ past
  pub column : MarkColumn (parents_in t) m
  pub whole : steps_marks (parents_in t) (names_of t) (steps_in c.steps c.conditions (past - k) k) m
      ≡ steps_marks (parents_in t) (names_of t) (steps_in c.steps c.conditions (past - first) first) m₀
  pub kept : Kept old s

module _ (t : Rows) (c : CompiledPaths) (first past : ℕ) (m₀ : List ℕ) (old : Scratch) where
  abbrev ps : List ℕ
  ps = parents_in t

  abbrev led : ℕ → ℕ → List ℕ → List ℕ
  led n k m = steps_marks ps (names_of t) (steps_in c.steps c.conditions n k) m

  module _ (h : StepsPass t c first past m₀ old) where
    pub steps-begun : Kept old old → StepsSoFar t c first past m₀ first m₀ old old
    steps-begun kept = record { low = omega arith; high = h.ordered; column = h.column; whole = refl; kept = kept }

    module _ (k : ℕ) (m : List ℕ) (s : Scratch) (w : StepsSoFar t c first past m₀ k m old s) where
      pub steps-pass : k < past → StepAtPass t c k m s
      steps-pass l =
          record {
            table = h.table;
            texts = h.texts;
            inside = omega (arith, h.inside);
            condition-starts = h.condition-starts;
            column = w.column;
            room = room-kept h.room w.kept;
          }

      pub steps_next : (x : List ℕ) (y : Scratch) → k < past → x ≡ step_marks ps (names_of t) (step_at c.steps c.conditions k) m → Kept s y
          → StepsSoFar t c first past m₀ (k + 1) x old y
      unfolding steps_marks steps_in
      steps_next x y l e kept =
          record {
            low = omega (arith, w.low);
            high = omega arith;
            column = step-column ps (codes_in t) c.steps c.conditions k m x w.column e;
            whole =
                ap (led (past - (k + 1)) (k + 1)) e
                ∙ ap (λ (j : ℕ). led (past - (k + 1)) j (step_marks ps (names_of t) (step_at c.steps c.conditions k) m)) (add-one k)
                ∙ sym (ap (λ (n : ℕ). led n k m) one_less) ∙ w.whole;
            kept = kept-kept w.kept kept;
          }
        where
          one_less : past - k ≡ suc (past - (k + 1))
          one_less = omega arith

      pub steps_all : past ≤ k → m ≡ led (past - first) first m₀
      unfolding steps_marks steps_in
      steps_all l =
          let n : past - k ≡ 0 = omega arith in
          sym (ap (λ (j : ℕ). led j k m) n) ∙ w.whole

      -- no row is left
      pub steps-ended : any_below (length m) (is_marked m) ≡ false → m ≡ led (past - first) first m₀
      steps-ended e =
          is ∙ sym (steps-none ps (names_of t) (steps_in c.steps c.conditions (past - k) k))
          ∙ sym (ap (led (past - k) k) is) ∙ w.whole
        where
          is : m ≡ no_marks (length ps)
          is = no-row-marked m w.column.marked e ∙ ap no_marks w.column.size

-- ---- steps from the root
pub root-column : (ps : List ℕ) → MarkColumn ps (root_marks (length ps))
unfolding root_marks
root-column ps = marks-column ps (λ r. eqb r 0)

module _ (t : Rows) (c : CompiledPaths) (first past : ℕ) (m : List ℕ) (s : Scratch) (h : RootStepsPass t c first past m s) where
  -- no step: the root alone
  pub no_steps : (x : List ℕ) → first ≡ past → x ≡ root_marks (length m)
      → x ≡ steps_marks (parents_in t) (names_of t) (steps_in c.steps c.conditions (past - first) first) (root_marks (length (parents_in t)))
  unfolding steps_marks steps_in
  no_steps x e d =
      let none : past - first ≡ 0 = omega arith in
      rw none (d ∙ ap root_marks h.room-marks)

  pub first-at : (first ≡ past → ⊥) → FirstAtPass t c first m s
  first-at d =
      record {
        table = h.table;
        texts = h.texts;
        inside = omega (arith, h.ordered, h.inside);
        condition-starts = h.condition-starts;
        room-marks = h.room-marks;
        room = h.room;
      }

  module _ (x : List ℕ) (e : x ≡ step_marks (parents_in t) (names_of t) (step_at c.steps c.conditions first) (root_marks (length (parents_in t)))) (d : first ≡ past → ⊥) where
    pub later-pass : (y : Scratch) → Kept s y → StepsPass t c (first + 1) past x y
    later-pass y kept =
        record {
          table = h.table;
          texts = h.texts;
          ordered = omega (arith, h.ordered);
          inside = h.inside;
          condition-starts = h.condition-starts;
          column = step-column (parents_in t) (codes_in t) c.steps c.conditions first (root_marks (length (parents_in t))) x (root-column (parents_in t)) e;
          room = room-kept h.room kept;
        }

    pub later-marked : (y : List ℕ) → y ≡ steps_marks (parents_in t) (names_of t) (steps_in c.steps c.conditions (past - (first + 1)) (first + 1)) x
        → y ≡ steps_marks (parents_in t) (names_of t) (steps_in c.steps c.conditions (past - first) first) (root_marks (length (parents_in t)))
    unfolding steps_marks steps_in
    later-marked y f =
        f ∙ ap (steps_marks (parents_in t) (names_of t) (steps_in c.steps c.conditions (past - (first + 1)) (first + 1))) e
        ∙ ap (λ (j : ℕ). steps_marks (parents_in t) (names_of t) (steps_in c.steps c.conditions (past - (first + 1)) j) one) (add-one first)
        ∙ sym (ap (λ (n : ℕ). steps_marks (parents_in t) (names_of t) (steps_in c.steps c.conditions n first) (root_marks (length (parents_in t)))) one_more)
      where
        one : List ℕ
        one = step_marks (parents_in t) (names_of t) (step_at c.steps c.conditions first) (root_marks (length (parents_in t)))

        one_more : past - first ≡ suc (past - (first + 1))
        one_more = omega (arith, h.ordered)

-- ---- a path
pub path-ranges : (c : CompiledPaths) (i : ℕ) → Shaped c → i < c.count → PathRanges c i
path-ranges c i h l = record { inside = omega (arith, h.few); paths-in = h.paths-in; conditions-in = h.conditions-in }

module _ (t : Rows) (c : CompiledPaths) (i : ℕ) (m : List ℕ) (s : Scratch) (h : PathPass t c i m s) (first past : ℕ) (b : (first ≡ start_at c.paths i) × (past ≡ end_at c.paths i)) where
  pub path-steps : RootStepsPass t c first past m s
  path-steps =
      record {
        table = h.table;
        texts = h.texts;
        ordered = omega (arith, b.0, b.1);
        inside = omega (arith, b.0, b.1, h.ranges.paths-in i, h.ranges.paths-in (i + 1));
        condition-starts = h.ranges.conditions-in;
        room-marks = h.room-marks;
        room = h.room;
      }

  pub path-marked : (y : List ℕ) → y ≡ steps_marks (parents_in t) (names_of t) (steps_in c.steps c.conditions (past - first) first) (root_marks (length (parents_in t)))
      → y ≡ path_marks (parents_in t) (names_of t) (path_at c.steps c.conditions c.paths i)
  unfolding path_marks
  path-marked y f =
      let size : past - first ≡ size_at c.paths i = omega (arith, b.0, b.1) in
      f ∙ ap₂ (λ (n k : ℕ). steps_marks (parents_in t) (names_of t) (steps_in c.steps c.conditions n k) (root_marks (length (parents_in t)))) size b.0
