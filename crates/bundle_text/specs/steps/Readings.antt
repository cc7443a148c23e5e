-- What reading a test and a step without brackets answers, in terms of the bundle machine, and what a step that was read stands for.
use Rattle.std.specs.Prelude.{Bool, List, ◌≡◌, ℕ, ◌≤◌, ◌<◌, length, true, false, Result, Ok, Err}
use Rattle.bundle_text.specs.declared.steps.StepRead.{StepRead}
use Rattle.bundle_text.specs.declared.steps.TestRead.{TestRead}
use Rattle.bundle_text.specs.declared.steps.TestRead.TheVariants.{Node, Text, Name}
use Rattle.compiled_paths.specs.Steps.{written_axis}
use Rattle.path_spec.specs.Machine.{Context, State, in_test, in_call, after_call, begin_step, bundle_machine}
use Rattle.path_spec.specs.Paths.{WrittenAxis, NodeTest, named, any_node, any_text, PlainStep}
use Rattle.schema_spec.specs.Declarations.{Use}
use Rattle.text_spec.specs.Machines.{departs, from}
use Rattle.text_spec.specs.Scans.{byte_at, name_at}

-- ---- bytes
-- the byte b stands at a place
pub record Stands (s : List ℕ) (at b : ℕ) (r : Bool) : Type 0 where
  pub here : r ≡ true → (at < length s) × (byte_at s at ≡ b)
  pub other : r ≡ false → at < length s → byte_at s at ≡ b → ⊥

-- ---- what a step that was read stands for
abbrev pub use_at : List ℕ → ℕ → Use
use_at s p = record { place = p; name = name_at s p }

-- a test of a text
abbrev pub test_noted : List ℕ → TestRead → NodeTest Use
test_noted s Node = any_node
test_noted s Text = any_text
test_noted s (Name p) = named (use_at s p)

abbrev pub step_axis : StepRead → WrittenAxis
step_axis p = written_axis p.axis

abbrev pub step_test : List ℕ → StepRead → NodeTest Use
step_test s p = test_noted s p.test

abbrev pub plain_noted : List ℕ → StepRead → PlainStep Use
plain_noted s p = record { axis = step_axis p; test = step_test s p; condition = tt }

-- a step with which its alternative ends
abbrev pub last_read : StepRead → StepRead
last_read p = record { axis = p.axis; test = p.test; ends_alternative = true }

-- ---- a test
-- a name's place is in the text
abbrev pub Within : List ℕ → TestRead → Type 0
Within s Node = Unit {0}
Within s Text = Unit {0}
Within s (Name p) = p < length s

abbrev pub TestAs : (WrittenAxis → Context → State) → List ℕ → ℕ → Result (TestRead × ℕ) ℕ → Type 0
TestAs before s at (Ok r) =
    (at < r.1) × (r.1 ≤ length s) × Within s r.0 × ((a : WrittenAxis) (x : Context) → from bundle_machine (before a x) s at ≡ from bundle_machine (after_call a (test_noted s r.0) x) s r.1)
TestAs before s at (Err j) = (a : WrittenAxis) (x : Context) → from bundle_machine (before a x) s at ≡ departs j

pub record ReadsTest (before : WrittenAxis → Context → State) (s : List ℕ) (at : ℕ) (r : Result (TestRead × ℕ) ℕ) : Type 0 where
  pub says : TestAs before s at r

-- in the name at a place
abbrev pub named-at : List ℕ → ℕ → WrittenAxis → Context → State
named-at s at a x = in_test a at (name_at s at) x

-- before the `)` of the test t
abbrev pub called : List ℕ → TestRead → WrittenAxis → Context → State
called s t a x = in_call a (test_noted s t) x

-- ---- a step
abbrev pub PlainAs : List ℕ → ℕ → Result (StepRead × ℕ) ℕ → Type 0
PlainAs s at (Ok r) =
    (at < r.1) × (r.1 ≤ length s) × (r.0.ends_alternative ≡ false)
    × ((x : Context) → from bundle_machine (begin_step x) s at ≡ from bundle_machine (after_call (step_axis r.0) (step_test s r.0) x) s r.1)
PlainAs s at (Err j) = (x : Context) → from bundle_machine (begin_step x) s at ≡ departs j

pub record ReadsPlain (s : List ℕ) (at : ℕ) (r : Result (StepRead × ℕ) ℕ) : Type 0 where
  pub says : PlainAs s at r
