-- What reading a step with its brackets, and a path, answers, in terms of the bundle machine, and what is noted of it.
use Rattle.std.specs.Prelude.{Bool, false, List, [], ◌∷◌, map, reverse, ◌≡◌, ℕ, ◌+◌, ◌-◌, ◌≤◌, ◌<◌, length, Result, Ok, Err}
use Rattle.bundle_text.specs.alternatives.Conditions.{too_much, condition_noted}
use Rattle.bundle_text.specs.declared.alternative_ends.Follow.{Follow}
use Rattle.bundle_text.specs.declared.alternative_ends.Follow.TheVariants.{Close, More}
use Rattle.bundle_text.specs.declared.conditions.Past.{Past}
use Rattle.bundle_text.specs.declared.notes.Notes.{Notes}
use Rattle.bundle_text.specs.declared.steps.StepRead.{StepRead}
use Rattle.bundle_text.specs.notes.Notes.{with_inners, cells_of, with_written, EachEnded, Written, outer_cells, all_paths, with_steps, Goes, OnlyInner, OnlySteps}
use Rattle.bundle_text.specs.steps.Readings.{step_axis, step_test}
use Rattle.path_spec.specs.Grammar.{PathRead, path_read}
use Rattle.path_spec.specs.Machine.{Outer, outside, State, line_start, after_call, after_brackets, begin_step, with_step, bundle_machine}
use Rattle.path_spec.specs.Paths.{Condition, unconditional, WrittenStep}
use Rattle.schema_spec.specs.Declarations.{Use}
use Rattle.text_spec.specs.Lists.{any_of}
use Rattle.text_spec.specs.Machines.{departs, from}

-- ---- a step and its brackets
abbrev pub condition_of : List ℕ → List (List StepRead) → Condition Use
condition_of s [] = unconditional
condition_of s (q ∷ qs) = condition_noted s (q ∷ qs)

-- the outer part after one more step
abbrev pub stepped : List ℕ → StepRead → List (List StepRead) → Outer → Outer
stepped s c qs o = with_step (step_axis c) (step_test s c) (condition_of s qs) o

-- brackets at a place, if there are any
pub record BracketsRead (s : List ℕ) (at : ℕ) (N N' : Notes) (r : Past) : Type 0 where
  pub paths : List (List StepRead)
  pub low : at ≤ r.at
  pub high : r.at ≤ length s
  pub ended : EachEnded paths
  pub noted : N' ≡ with_inners N (cells_of paths)
  pub few : N'.inner_count ≤ r.at
  pub limit : r.over_limit ≡ too_much paths
  pub same : (c : StepRead) (o : Outer) → from bundle_machine (after_call (step_axis c) (step_test s c) (outside o)) s at ≡ from bundle_machine (after_brackets (stepped s c paths o)) s r.at

abbrev pub BracketsAs : List ℕ → ℕ → Notes → Notes → Result Past ℕ → Type 0
BracketsAs s at N N' (Ok r) = BracketsRead s at N N' r
BracketsAs s at N N' (Err j) = OnlyInner N N' × ((c : StepRead) (o : Outer) → from bundle_machine (after_call (step_axis c) (step_test s c) (outside o)) s at ≡ departs j)

pub record ReadsBrackets (s : List ℕ) (at : ℕ) (N N' : Notes) (r : Result Past ℕ) : Type 0 where
  pub says : BracketsAs s at N N' r

-- a step and its brackets, by the notes that it leaves
pub record StepPassed (leaves : Notes → Written → Notes) (s : List ℕ) (at : ℕ) (N N' : Notes) (r : Past) : Type 0 where
  pub step : Written
  -- where its brackets stand, if it has any
  pub place : ℕ
  pub before : at < place
  pub past-brackets : place ≤ r.at
  pub brackets : (c : StepRead) (o : Outer)
      → from bundle_machine (after_call (step_axis c) (step_test s c) (outside o)) s place ≡ from bundle_machine (after_brackets (stepped s c step.paths o)) s r.at
  pub low : at < r.at
  pub high : r.at ≤ length s
  pub goes_on : step.cell.ends_alternative ≡ false
  pub ended : EachEnded step.paths
  pub noted : N' ≡ leaves N step
  pub few : N'.inner_count ≤ r.at
  pub limit : r.over_limit ≡ too_much step.paths
  pub same : (o : Outer) → from bundle_machine (begin_step (outside o)) s at ≡ from bundle_machine (after_brackets (stepped s step.cell step.paths o)) s r.at

abbrev pub StepFails : List ℕ → ℕ → Notes → Notes → ℕ → Type 0
StepFails s at N N' j = OnlyInner N N' × ((o : Outer) → from bundle_machine (begin_step (outside o)) s at ≡ departs j)

-- it is noted after the steps in its brackets, and not counted yet
abbrev pub UncountedRead : List ℕ → ℕ → Notes → Notes → Past → Type 0
UncountedRead = StepPassed with_written

abbrev pub UncountedAs : List ℕ → ℕ → Notes → Notes → Result Past ℕ → Type 0
UncountedAs s at N N' (Ok r) = UncountedRead s at N N' r
UncountedAs s at N N' (Err j) = StepFails s at N N' j

pub record ReadsUncounted (s : List ℕ) (at : ℕ) (N N' : Notes) (r : Result Past ℕ) : Type 0 where
  pub says : UncountedAs s at N N' r

-- the same, and counted
abbrev pub WrittenRead : List ℕ → ℕ → Notes → Notes → Past → Type 0
WrittenRead = StepPassed (λ N w. with_steps N (w ∷ []))

abbrev pub WrittenAs : List ℕ → ℕ → Notes → Notes → Result Past ℕ → Type 0
WrittenAs s at N N' (Ok r) = WrittenRead s at N N' r
WrittenAs s at N N' (Err j) = StepFails s at N N' j

pub record ReadsWritten (s : List ℕ) (at : ℕ) (N N' : Notes) (r : Result Past ℕ) : Type 0 where
  pub says : WrittenAs s at N N' r

-- ---- what follows a step: `/`, or the line feed that ends the path
abbrev pub line_ended : Outer → ℕ → State
line_ended o k = line_start (path_read o.start (k - o.start) (reverse o.steps) ∷ o.paths)

abbrev pub FollowedAs : List ℕ → ℕ → Result Follow ℕ → Type 0
FollowedAs s at (Ok (Close j)) = (at < j) × (j ≤ length s) × (j ≡ at + 1) × ((o : Outer) → from bundle_machine (after_brackets o) s at ≡ from bundle_machine (line_ended o at) s j)
FollowedAs s at (Ok (More j)) = (at < j) × (j ≤ length s) × ((o : Outer) → from bundle_machine (after_brackets o) s at ≡ from bundle_machine (begin_step (outside o)) s j)
FollowedAs s at (Err j) = (o : Outer) → from bundle_machine (after_brackets o) s at ≡ departs j

pub record Followed (s : List ℕ) (at : ℕ) (r : Result Follow ℕ) : Type 0 where
  pub says : FollowedAs s at r

-- ---- a path
abbrev pub step_noted : List ℕ → Written → WrittenStep Use (Condition Use)
step_noted s w = record { axis = step_axis w.cell; test = step_test s w.cell; condition = condition_of s w.paths }

abbrev pub over_condition : List Written → Bool
over_condition ws = any_of (λ w. too_much w.paths) ws

pub record LineRead (s : List ℕ) (at : ℕ) (N N' : Notes) (r : Past) : Type 0 where
  pub steps : List Written
  pub low : at < r.at
  pub high : r.at ≤ length s
  pub goes_on : Goes (outer_cells steps)
  pub ended : EachEnded (all_paths steps)
  pub noted : N' ≡ with_steps N steps
  pub few-steps : N'.outer_count ≤ r.at
  pub few : N'.inner_count ≤ r.at
  pub limit : r.over_limit ≡ over_condition steps
  pub same : (ps : List PathRead) → from bundle_machine (line_start ps) s at ≡ from bundle_machine (line_start (path_read at (r.at - 1 - at) (map (step_noted s) steps) ∷ ps)) s r.at

abbrev pub LineAs : List ℕ → ℕ → Notes → Notes → Result Past ℕ → Type 0
LineAs s at N N' (Ok r) = LineRead s at N N' r
LineAs s at N N' (Err j) = OnlySteps N N' × ((ps : List PathRead) → from bundle_machine (line_start ps) s at ≡ departs j)

pub record ReadsLine (s : List ℕ) (at : ℕ) (N N' : Notes) (r : Result Past ℕ) : Type 0 where
  pub says : LineAs s at N N' r
