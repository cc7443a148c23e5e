-- A written step of a compiled path: the axis and the test, from marked rows or from the root, and then the condition.
use Rattle.std.specs.Prelude.{List, ◌≡◌, ℕ, ◌+◌, ◌-◌, ◌<◌, length}
use Rattle.std.proofs.Common.{ap, ap₂, ◌∙◌, arith}
use Rattle.axis_passes.specs.conditions.Conditions.{KeepPass}
use Rattle.axis_passes.specs.declared.rows.Rows.{Rows}
use Rattle.axis_passes.specs.declared.scratch.Scratch.{Scratch}
use Rattle.axis_passes.specs.name_tests.Tests.{names_in}
use Rattle.axis_passes.specs.root.Roots.{FirstPass}
use Rattle.axis_passes.specs.rows.Rows.{parents_in, codes_in, names_of, HeldTexts}
use Rattle.axis_passes.specs.scratch.Scratch.{Room, Kept, room-kept}
use Rattle.axis_passes.specs.steps.Steps.{forward_marks, TableColumns, MarkColumn, StepPass, intersection-column, forward-column}
use Rattle.cells.specs.row_sets.Columns.{intersection}
use Rattle.compiled_paths.specs.Paths.{AtMost}
use Rattle.compiled_paths.specs.Sizes.{written_steps, all_steps}
use Rattle.compiled_paths.specs.Steps.{step_in, start_at, size_at, end_at, condition_in, condition_at, step_at}
use Rattle.compiled_paths.specs.declared.CompiledPaths.{CompiledPaths}
use Rattle.compiled_paths.specs.declared.Step.{Step}
use Rattle.selection_laws.specs.marks.Selection.{condition_marks, step_marks, root_marks}

-- ---- what the passes ask
pub record StepAtPass (t : Rows) (c : CompiledPaths) (k : ℕ) (m : List ℕ) (s : Scratch) : Type 0 where
  pub table : TableColumns (parents_in t) (codes_in t)
  pub texts : HeldTexts t
  pub inside : k < written_steps
  pub condition-starts : AtMost all_steps c.conditions
  pub column : MarkColumn (parents_in t) m
  pub room : Room (parents_in t) s

-- the marks may be anything where a path starts
pub record FirstAtPass (t : Rows) (c : CompiledPaths) (k : ℕ) (m : List ℕ) (s : Scratch) : Type 0 where
  pub table : TableColumns (parents_in t) (codes_in t)
  pub texts : HeldTexts t
  pub inside : k < written_steps
  pub condition-starts : AtMost all_steps c.conditions
  pub room-marks : length m ≡ length (parents_in t)
  pub room : Room (parents_in t) s

-- ---- a step, then its condition
module _ (t : Rows) (c : CompiledPaths) (k : ℕ) where
  abbrev ps : List ℕ
  ps = parents_in t

  abbrev at : Step
  at = step_in c.steps k

  -- the rows where the condition holds
  abbrev holding : List ℕ
  holding = condition_marks ps (names_of t) (condition_at c.steps c.conditions k)

  -- from marked rows
  module _ (m : List ℕ) (s : Scratch) (h : StepAtPass t c k m s) where
    pub step-pass : StepPass ps (codes_in t) m s.next.now
    step-pass = record { table = h.table; column = h.column; room = h.room.next }

    pub step_kept : (x : List ℕ) (y : Scratch) (first past : ℕ) → (first ≡ start_at c.conditions k) × (past ≡ end_at c.conditions k)
        → x ≡ forward_marks ps (codes_in t) at m → Kept s y → KeepPass t first past x y
    step_kept x y first past b d kept =
        record {
          condition = record {
            table = h.table;
            texts = h.texts;
            ordered = omega (arith, b.0, b.1);
            inside = omega (arith, b.0, b.1, h.condition-starts k, h.condition-starts (k + 1));
            room = room-kept h.room kept;
          };
          column = rw d (forward-column ps (codes_in t) at m);
        }

  -- from the root
  module _ (m : List ℕ) (s : Scratch) (h : FirstAtPass t c k m s) where
    pub first-pass : FirstPass ps (codes_in t) m s.next.now
    first-pass = record { table = h.table; room-marks = h.room-marks; room_next = h.room.next }

    pub first-kept : (x : List ℕ) (y : Scratch) (first past : ℕ) → (first ≡ start_at c.conditions k) × (past ≡ end_at c.conditions k)
        → x ≡ forward_marks ps (codes_in t) at (root_marks (length ps)) → Kept s y → KeepPass t first past x y
    first-kept x y first past b d kept =
        record {
          condition = record {
            table = h.table;
            texts = h.texts;
            ordered = omega (arith, b.0, b.1);
            inside = omega (arith, b.0, b.1, h.condition-starts k, h.condition-starts (k + 1));
            room = room-kept h.room kept;
          };
          column = rw d (forward-column ps (codes_in t) at (root_marks (length ps)));
        }

  pub step-marked : (m x y : List ℕ) (first past : ℕ) → (first ≡ start_at c.conditions k) × (past ≡ end_at c.conditions k) → x ≡ forward_marks ps (codes_in t) at m
      → y ≡ intersection x (condition_marks ps (names_of t) (condition_in c.steps (past - first) first)) → y ≡ step_marks ps (names_of t) (step_at c.steps c.conditions k) m
  unfolding step_marks forward_marks
  step-marked m x y first past b d f =
      let size : past - first ≡ size_at c.conditions k = omega (arith, b.0, b.1) in
      f ∙ ap (λ (l : List ℕ). intersection l (condition_marks ps (names_of t) (condition_in c.steps (past - first) first))) d
      ∙ ap₂ (λ (n i : ℕ). intersection (forward_marks ps (codes_in t) at m) (condition_marks ps (names_of t) (condition_in c.steps n i))) size b.0

pub step-column : (ps codes : List ℕ) (steps : List Step) (conditions : List ℕ) (k : ℕ) (m x : List ℕ) → MarkColumn ps m
    → x ≡ step_marks ps (names_in codes) (step_at steps conditions k) m → MarkColumn ps x
unfolding step_marks forward_marks
step-column ps codes steps conditions k m x c e =
    rw e
    (intersection-column ps (forward_marks ps codes (step_in steps k) m) (condition_marks ps (names_in codes) (condition_at steps conditions k))
    (forward-column ps codes (step_in steps k) m))
