-- What reading an axis answers, in terms of the bundle machine: judging on from where the axis is due is judging on from where its test is.
use Rattle.std.specs.Prelude.{List, [], ◌∷◌, ◌++◌, ◌≡◌, ℕ, ◌≤◌, ◌<◌, length, Result, Ok, Err}
use Rattle.compiled_paths.specs.Steps.{written_axis}
use Rattle.compiled_paths.specs.declared.Axis.{Axis}
use Rattle.path_spec.specs.Machine.{Context, State, in_axis, before_test, bundle_machine}
use Rattle.path_spec.specs.Paths.{along, parent, preceding, preceding_sibling}
use Rattle.text_spec.specs.Lists.{bytes}
use Rattle.text_spec.specs.Machines.{departs, from}

-- the axis a may still be meant, and w is to come of it
abbrev pub single : Axis → List ℕ → Context → State
single a w x = in_axis (record { axis = written_axis a; rest = w } ∷ []) x

-- the axis a or the longer one b: w is to come of both, and then of the longer one a hyphen and e
abbrev pub double : Axis → Axis → List ℕ → List ℕ → Context → State
double a b w e x = in_axis (record { axis = written_axis a; rest = w ++ bytes "::" } ∷ record { axis = written_axis b; rest = w ++ (0x2D ∷ e) } ∷ []) x

-- the axes that begin with `p`, which has been read
abbrev pub parent_or_preceding : Context → State
parent_or_preceding x =
    in_axis
    (record { axis = along parent; rest = bytes "arent::" } ∷ record { axis = preceding; rest = bytes "receding::" }
    ∷ record { axis = preceding_sibling; rest = bytes "receding-sibling::" } ∷ []) x

abbrev pub AxisAs : (Context → State) → List ℕ → ℕ → Result (Axis × ℕ) ℕ → Type 0
AxisAs before s at (Ok r) =
    (at < r.1) × (r.1 ≤ length s) × ((x : Context) → from bundle_machine (before x) s at ≡ from bundle_machine (before_test (written_axis r.0) x) s r.1)
AxisAs before s at (Err j) = (x : Context) → from bundle_machine (before x) s at ≡ departs j

pub record ReadsAxis (before : Context → State) (s : List ℕ) (at : ℕ) (r : Result (Axis × ℕ) ℕ) : Type 0 where
  pub says : AxisAs before s at r
