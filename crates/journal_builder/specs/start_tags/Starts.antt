-- What a start tag leaves that the next event needs to be safe: where nesting is not broken, an element is open.
use Rattle.std.specs.Prelude.{◌≡◌, ℕ, ◌≤◌, ◌<◌, Option}
use Rattle.std.proofs.Common.{subst, arith}
use Rattle.cells.specs.declared.columns.RowCells.{RowCells}
use Rattle.journal_builder.specs.build_state.State.{judged_from, SafeStep, broken_by, step}
use Rattle.journal_builder.specs.declared.build_state.Build.{Build}
use Rattle.journal_builder.specs.declared.build_state.BuildStep.{BuildStep}
use Rattle.journal_builder.specs.laws.StateLaws.{safe-as, broken-safe}
use Rattle.text.specs.fault_keys.Keys.{place_limit}
use Rattle.text_spec.specs.Limits.{max_depth}

pub record SafeStart (m : Build) (x : BuildStep) : Type 0 where
  pub step : SafeStep m x
  pub deep : judged_from ≤ x.build.fault → 0 < x.build.depth

-- 12 or 13
pub broken-start : (m : Build) (number k : ℕ) (row : Option RowCells) (x : BuildStep) → m.depth ≤ max_depth → number ≤ 13 → k < place_limit → x ≡ step (broken_by number k m) row
    → SafeStart m x
broken-start m number k row x w l p e =
    record { step = safe-as e (broken-safe m number k row w); deep = λ h. absurd (never (subst (λ (y : BuildStep). judged_from ≤ y.build.fault) e h)) }
  where
    never : judged_from ≤ (broken_by number k m).fault → ⊥
    never h = omega arith
