-- What follows an alternative, in terms of the bundle machine.
use Rattle.std.specs.Prelude.{List, ◌≡◌, ℕ, ◌≤◌, ◌<◌, length, Result, Ok, Err}
use Rattle.bundle_text.specs.declared.alternative_ends.Follow.{Follow}
use Rattle.bundle_text.specs.declared.alternative_ends.Follow.TheVariants.{Close, More}
use Rattle.bundle_text.specs.declared.steps.StepRead.{StepRead}
use Rattle.bundle_text.specs.steps.Readings.{step_axis, step_test}
use Rattle.path_spec.specs.Machine.{Inner, inside, State, after_call, after_brackets, begin_step, with_plain, with_alternative, bracketed, bundle_machine}
use Rattle.text_spec.specs.Machines.{departs, from}
use Rattle.text_spec.specs.Scans.{byte_at}

abbrev pub NoSlash : List ℕ → ℕ → Type 0
NoSlash s at = at < length s → byte_at s at ≡ 0x2F → ⊥

-- past a step of the alternative
abbrev pub plain_past : List ℕ → StepRead → Inner → State
plain_past s c x = after_call (step_axis c) (step_test s c) (inside x)

abbrev pub closed : List ℕ → StepRead → Inner → Inner
closed s c x = with_alternative (with_plain (step_axis c) (step_test s c) x)

abbrev pub FollowedAs : List ℕ → ℕ → Result Follow ℕ → Type 0
FollowedAs s at (Ok (Close j)) =
    (at < j) × (j ≤ length s) × ((c : StepRead) (x : Inner) → from bundle_machine (plain_past s c x) s at ≡ from bundle_machine (after_brackets (bracketed (closed s c x))) s j)
FollowedAs s at (Ok (More j)) =
    (at < j) × (j ≤ length s) × ((c : StepRead) (x : Inner) → from bundle_machine (plain_past s c x) s at ≡ from bundle_machine (begin_step (inside (closed s c x))) s j)
FollowedAs s at (Err j) = (c : StepRead) (x : Inner) → from bundle_machine (plain_past s c x) s at ≡ departs j

pub record Followed (s : List ℕ) (at : ℕ) (r : Result Follow ℕ) : Type 0 where
  pub says : FollowedAs s at r
