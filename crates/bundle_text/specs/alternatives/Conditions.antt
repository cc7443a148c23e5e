-- What reading a condition answers, in terms of the bundle machine, and what is noted of it: its alternatives as lists of their steps.
use Rattle.std.specs.Prelude.{Bool, ◌||◌, List, [], map, ◌≡◌, ℕ, ◌≤◌, ◌<◌, ltb, length, Result, Ok, Err}
use Rattle.bundle_text.specs.declared.conditions.Past.{Past}
use Rattle.bundle_text.specs.declared.notes.Notes.{Notes}
use Rattle.bundle_text.specs.declared.steps.StepRead.{StepRead}
use Rattle.bundle_text.specs.notes.Notes.{with_inners, cells_of, EachEnded, OnlyInner}
use Rattle.bundle_text.specs.steps.Readings.{plain_noted}
use Rattle.path_spec.specs.Machine.{Outer, Inner, inside, after_brackets, begin_step, with_step, bundle_machine}
use Rattle.path_spec.specs.Paths.{WrittenAxis, NodeTest, Condition, alternatives}
use Rattle.schema_spec.specs.Declarations.{Use}
use Rattle.text_spec.specs.Limits.{max_alternatives, max_alternative_steps}
use Rattle.text_spec.specs.Lists.{any_of}
use Rattle.text_spec.specs.Machines.{departs, from}

-- 9. too many alternatives, or too many steps in one
abbrev pub long_alternative : List (List StepRead) → Bool
long_alternative qs = any_of (λ q. ltb max_alternative_steps (length q)) qs

abbrev pub too_much : List (List StepRead) → Bool
too_much qs = ltb max_alternatives (length qs) || long_alternative qs

abbrev pub condition_noted : List ℕ → List (List StepRead) → Condition Use
condition_noted s qs = alternatives (map (map (plain_noted s)) qs)

-- after the `[` of a step
abbrev pub opened : Outer → WrittenAxis → NodeTest Use → Inner
opened o a t = record { outer = o; axis = a; test = t; alternatives = []; steps = [] }

pub record ConditionRead (s : List ℕ) (at : ℕ) (N N' : Notes) (r : Past) : Type 0 where
  pub paths : List (List StepRead)
  pub some : 0 < length paths
  pub low : at < r.at
  pub high : r.at ≤ length s
  pub ended : EachEnded paths
  pub noted : N' ≡ with_inners N (cells_of paths)
  pub few : N'.inner_count ≤ r.at
  pub limit : r.over_limit ≡ too_much paths
  pub same : (o : Outer) (a : WrittenAxis) (t : NodeTest Use)
      → from bundle_machine (begin_step (inside (opened o a t))) s at ≡ from bundle_machine (after_brackets (with_step a t (condition_noted s paths) o)) s r.at

abbrev pub ConditionAs : List ℕ → ℕ → Notes → Notes → Result Past ℕ → Type 0
ConditionAs s at N N' (Ok r) = ConditionRead s at N N' r
ConditionAs s at N N' (Err j) =
    OnlyInner N N' × ((o : Outer) (a : WrittenAxis) (t : NodeTest Use) → from bundle_machine (begin_step (inside (opened o a t))) s at ≡ departs j)

pub record ReadsCondition (s : List ℕ) (at : ℕ) (N N' : Notes) (r : Result Past ℕ) : Type 0 where
  pub says : ConditionAs s at N N' r
