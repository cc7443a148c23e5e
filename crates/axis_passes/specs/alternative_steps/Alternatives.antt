-- The loop that judges an alternative of a condition for all rows: over its steps, from the last back.
use Rattle.std.proofs.Math.Bool.{true}
use Rattle.std.specs.Prelude.{List, [], ◌∷◌, ◌≡◌}
use Rattle.std.proofs.Math.Path.{sym, ap}
use Rattle.std.proofs.Common.{◌∙◌}
use Prim.Native.Nat.{ℕ, suc, ◌-◌, ◌<◌, ◌≤◌}
use native.Mathlib.Omega.{arith}
use Rattle.std.proofs.Math.ListN.{length, replicate}
use Rattle.axis_passes.specs.declared.scratch.Scratch.{Scratch}
use Rattle.axis_passes.specs.declared.rows.Rows.{Rows}
use Rattle.axis_passes.specs.rows.Rows.{parents_in, codes_in, names_of, HeldTexts}
use Rattle.axis_passes.specs.scratch.Scratch.{Room, Kept, room-kept, kept-kept}
use Rattle.axis_passes.specs.steps.Steps.{backward_marks, TableColumns, MarkColumn, StepPass, marks-column, written-column, columns-same-length}
use Rattle.cells.specs.row_sets.Columns.{union}
use Rattle.compiled_paths.specs.Steps.{step_in, plain_in}
use Rattle.compiled_paths.specs.declared.Step.{Step}
use Rattle.compiled_paths.specs.Sizes.{all_steps}
use Rattle.path_laws.specs.Inverses.{inverse_written}
use Rattle.path_spec.specs.Paths.{PlainStep}
use Rattle.schema_spec.specs.Names.{Name}
use Rattle.selection_laws.specs.marks.Passes.{SameLength, fill-marks}
use Rattle.selection_laws.specs.marks.Selection.{alternative_marks}

-- ---- what the pass asks
pub record AlternativePass (t : Rows) (first past : ℕ) (s : Scratch) : Type 0 where
  pub table : TableColumns (parents_in t) (codes_in t)
  pub texts : HeldTexts t
  pub ordered : first ≤ past
  pub inside : past ≤ all_steps
  pub column : MarkColumn (parents_in t) s.held.now
  pub room : Room (parents_in t) s

-- ---- columns stay columns
pub alternative-column : (ps : List ℕ) (ns : List Name) (q : List (PlainStep ℕ)) → MarkColumn ps (alternative_marks ps ns q)
unfolding alternative_marks
alternative-column ps ns [] = marks-column ps (λ r. true)
alternative-column ps ns (q ∷ qs) = written-column (inverse_written q.axis) ps _

-- ---- the steps of an alternative, those from k on behind the loop
pub record StepsBack (t : Rows) (steps : List Step) (first past k : ℕ) (old s : Scratch) : Type 0 where
  pub low : first ≤ k
  pub high : k ≤ past
  pub column : s.steps.now ≡ alternative_marks (parents_in t) (names_of t) (plain_in steps (past - k) k)
  pub held : s.held.now ≡ old.held.now
  pub kept : Kept old s

module _ (t : Rows) (steps : List Step) (first past : ℕ) (old : Scratch) (h : AlternativePass t first past old) where
  abbrev ps : List ℕ
  ps = parents_in t

  abbrev judged : ℕ → ℕ → List ℕ
  judged n k = alternative_marks ps (names_of t) (plain_in steps n k)

  pub steps-begun : (s : Scratch) → s.steps.now ≡ replicate (length old.steps.now) 1 → s.held.now ≡ old.held.now → Kept old s → StepsBack t steps first past past old s
  unfolding alternative_marks plain_in
  steps-begun s e i kept =
      record {
        low = h.ordered;
        high = omega arith;
        column = e ∙ ap (λ (n : ℕ). replicate n 1) h.room.steps ∙ fill-marks (length ps) true ∙ sym (ap (λ (n : ℕ). judged n past) none);
        held = i;
        kept = kept;
      }
    where
      none : past - past ≡ 0
      none = omega arith

  module _ (k : ℕ) (s : Scratch) (w : StepsBack t steps first past k old s) where
    pub steps-column : MarkColumn ps s.steps.now
    steps-column = rw w.column (alternative-column ps (names_of t) (plain_in steps (past - k) k))

    pub steps-pass : StepPass ps (codes_in t) s.steps.now s.next.now
    steps-pass = record { table = h.table; column = steps-column; room = (room-kept h.room w.kept).next }

    pub steps_next : (x : Scratch) → first < k → x.steps.now ≡ backward_marks ps (codes_in t) (step_in steps (k - 1)) s.steps.now → x.held.now ≡ s.held.now → Kept s x
        → StepsBack t steps first past (k - 1) old x
    unfolding alternative_marks plain_in backward_marks
    steps_next x l e i kept =
        record {
          low = omega arith;
          high = omega (arith, w.high);
          column =
              e
              ∙ ap (backward_marks ps (codes_in t) (step_in steps (k - 1))) (w.column ∙ ap (λ (j : ℕ). judged (past - k) j) next_place)
              ∙ sym (ap (λ (n : ℕ). judged n (k - 1)) one_more);
          held = i ∙ w.held;
          kept = kept-kept w.kept kept;
        }
      where
        one_more : past - (k - 1) ≡ suc (past - k)
        one_more = omega (arith, w.high)

        next_place : k ≡ suc (k - 1)
        next_place = omega arith

    pub steps_all : (x : List ℕ) → k ≤ first → x ≡ union s.held.now s.steps.now → x ≡ union old.held.now (judged (past - first) first)
    steps_all x l e =
        let z : k ≡ first = omega (arith, w.low) in
        e ∙ ap (λ (m : List ℕ). union m s.steps.now) w.held ∙ ap (union old.held.now) (w.column ∙ ap (λ (i : ℕ). judged (past - i) i) z)

    pub unite-pass : SameLength s.steps.now s.held.now
    unite-pass = columns-same-length steps-column (rw w.held h.column)
