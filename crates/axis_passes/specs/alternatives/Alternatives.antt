-- The loop that judges a condition for all rows: over its alternatives.
use Rattle.std.specs.Prelude.{false, ◌≡◌, length, replicate}
use mathlib.Core.List.{List}
use Rattle.std.proofs.Math.Path.{sym, ap}
use Rattle.std.proofs.Common.{◌∙◌, arith}
use Prim.Native.Nat.{ℕ, ◌+◌, ◌-◌, ◌<◌, ◌≤◌}
use Rattle.axis_passes.specs.alternative_steps.Alternatives.{AlternativePass}
use Rattle.axis_passes.specs.steps.Steps.{TableColumns, MarkColumn, marks-column, union-column}
use Rattle.axis_passes.specs.declared.scratch.Scratch.{Scratch}
use Rattle.axis_passes.specs.declared.rows.Rows.{Rows}
use Rattle.axis_passes.specs.rows.Rows.{parents_in, codes_in, names_of, HeldTexts}
use Rattle.axis_passes.specs.scratch.Scratch.{Room, Kept, room-kept, kept-kept}
use Rattle.cells.specs.row_sets.Columns.{union}
use Rattle.compiled_paths.specs.declared.Step.{Step}
use Rattle.compiled_paths.specs.Steps.{first_size, first-size-fits, first-size-some, plain_in, alternatives_in, alternatives-none, alternatives-next as first-alternative}
use Rattle.compiled_paths.specs.Sizes.{all_steps}
use Rattle.selection_laws.specs.marks.Passes.{fill-marks}
use Rattle.selection_laws.specs.marks.Selection.{no_marks, alternative_marks, alternatives_marks}

-- what the pass asks
pub record ConditionPass (t : Rows) (first past : ℕ) (s : Scratch) : Type 0 where
  pub table : TableColumns (parents_in t) (codes_in t)
  pub texts : HeldTexts t
  pub ordered : first ≤ past
  pub inside : past ≤ all_steps
  pub room : Room (parents_in t) s

-- ---- the alternatives of a condition, those before the step k behind the loop
pub record AlternativesSoFar (t : Rows) (steps : List Step) (first past k : ℕ) (old s : Scratch) : Type 0 where
  pub low : first ≤ k
  pub high : k ≤ past
  pub column : MarkColumn (parents_in t) s.held.now
  pub whole : alternatives_marks (parents_in t) (names_of t) s.held.now (alternatives_in steps (past - k) k)
      ≡ alternatives_marks (parents_in t) (names_of t) (no_marks (length (parents_in t))) (alternatives_in steps (past - first) first)
  pub kept : Kept old s

module _ (t : Rows) (steps : List Step) (first past : ℕ) (old : Scratch) (h : ConditionPass t first past old) where
  abbrev ps : List ℕ
  ps = parents_in t

  abbrev judged : List ℕ → ℕ → ℕ → List ℕ
  judged m n k = alternatives_marks ps (names_of t) m (alternatives_in steps n k)

  pub alternatives-begun : (s : Scratch) → s.held.now ≡ replicate (length old.held.now) 0 → Kept old s → AlternativesSoFar t steps first past first old s
  alternatives-begun s e kept =
      record {
        low = omega arith;
        high = h.ordered;
        column = rw is (marks-column ps (λ r. false));
        whole = ap (λ (m : List ℕ). judged m (past - first) first) is;
        kept = kept;
      }
    where
      is : s.held.now ≡ no_marks (length ps)
      is = e ∙ ap (λ (n : ℕ). replicate n 0) h.room.held ∙ fill-marks (length ps) false

  module _ (k : ℕ) (s : Scratch) (w : AlternativesSoFar t steps first past k old s) where
    -- the next alternative has n steps
    module _ (n : ℕ) (d : n ≡ first_size steps (past - k) k) where
      pub size_fits : k + n ≤ past
      size_fits = omega (arith, w.high, first-size-fits steps (past - k) k)

      pub size-some : k < past → 0 < n
      size-some l = omega (arith, first-size-some steps (past - k) k (λ e. omega arith))

      pub alternatives-pass : AlternativePass t k (k + n) s
      alternatives-pass =
          record {
            table = h.table;
            texts = h.texts;
            ordered = omega arith;
            inside = omega (arith, h.inside, size_fits);
            column = w.column;
            room = room-kept h.room w.kept;
          }

      pub alternatives-next : (x : Scratch) (z : ℕ) → k < past → z ≡ n → x.held.now ≡ union s.held.now (alternative_marks ps (names_of t) (plain_in steps z k)) → Kept s x
          → AlternativesSoFar t steps first past (k + n) old x
      unfolding alternatives_marks
      alternatives-next x z l i e₀ kept =
          let e : x.held.now ≡ with-one n = e₀ ∙ ap with-one i in
          record {
            low = omega (arith, w.low);
            high = size_fits;
            column = rw e (union-column ps s.held.now (alternative_marks ps (names_of t) (plain_in steps n k)) w.column);
            whole =
                ap (λ (m : List ℕ). judged m (past - (k + n)) (k + n)) e
                ∙ ap (λ (z : ℕ). judged (with-one n) z (k + n)) less ∙ ap (λ (z : ℕ). judged (with-one z) (past - k - z) (k + z)) d
                ∙ sym (ap (alternatives_marks ps (names_of t) s.held.now) (first-alternative steps (past - k) k (λ q. omega arith))) ∙ w.whole;
            kept = kept-kept w.kept kept;
          }
        where
          with-one : ℕ → List ℕ
          with-one z = union s.held.now (alternative_marks ps (names_of t) (plain_in steps z k))

          less : past - (k + n) ≡ past - k - n
          less = omega arith

    pub alternatives-all : past ≤ k → s.held.now ≡ judged (no_marks (length ps)) (past - first) first
    unfolding alternatives_marks
    alternatives-all l =
        sym (ap (alternatives_marks ps (names_of t) s.held.now) (alternatives-none steps (past - k) k (omega arith))) ∙ w.whole
