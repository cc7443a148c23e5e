-- A written step by its parts: where it leads but for its condition, and what it adds to what the later steps need.
use Rattle.std.specs.Prelude.{false, List, [], ◌∷◌, map, ◌≡◌, ℕ}
use Rattle.inference_spec.specs.Types.{Env, move, narrow}
use Rattle.inference.specs.back_steps.Needs.{StepNeeds}
use Rattle.inference.specs.declared.back_steps.Needs.{Needs}
use Rattle.names.specs.Sets.{member}
use Rattle.names.specs.declared.NameSet.{NameSet}
use Rattle.path_laws.specs.Paths.{last_axis, passing_steps}
use Rattle.path_spec.specs.Paths.{Axis, WrittenAxis, NodeTest, any_node, Step}
use Rattle.path_spec.specs.Selection.{passes}
use Rattle.schema_spec.specs.Names.{Name}
use Rattle.schema_spec.specs.Schemas.{Schema}
use Rattle.schema_spec.specs.Types.{Types, types_of}

-- the axes of the steps in front of the last part
abbrev pub passing_axes : WrittenAxis → List Axis
passing_axes a = map (λ (p : Step ℕ (Unit {0})). p.axis) (passing_steps tt 0 a)

-- the last part of the written step of number i
abbrev pub last_part : {C : Type 0} → ℕ → WrittenAxis → NodeTest ℕ → C → Step ℕ C
last_part i a w c = record { written = i; axis = last_axis a; test = w; condition = c }

-- ---- forward
-- a step but for its condition
abbrev pub stepped : Types → Axis → NodeTest ℕ → Env → Env
stepped s x w e = narrow s (passes w) (move s x w e)

-- after steps `node()` along some axes
abbrev pub passed_along : Types → List Axis → Env → Env
passed_along s [] e = e
passed_along s (x ∷ xs) e = passed_along s xs (stepped s x any_node e)

-- before the last part of a written step
abbrev pub before_last : Types → WrittenAxis → Env → Env
before_last s a e = passed_along s (passing_axes a) e

-- a written step but for its condition
abbrev pub reached : Types → WrittenAxis → NodeTest ℕ → Env → Env
reached s a w e = stepped s (last_axis a) w (before_last s a e)

-- ---- back
module _ (s : Schema) where
  -- what steps `node()` along some axes add
  pub data PassingNeeds : List Axis → Env → Needs → Needs → Type 0 where
    no_step : (e : Env) (later : Needs) → PassingNeeds [] e later later
    step-and-rest : (x : Axis) (xs : List Axis) (e : Env) (later next r : Needs) (none : NameSet) → ((n : Name) → member none n ≡ false)
        → StepNeeds s x e.type none next r → PassingNeeds xs (stepped (types_of s) x any_node e) later next → PassingNeeds (x ∷ xs) e later r

  -- what these steps and one along the axis x after them add
  pub record PartsNeeds (xs : List Axis) (x : Axis) (e : Env) (wanted : NameSet) (later r : Needs) : Type 0 where
    pub at_last : Needs
    pub last : StepNeeds s x (passed_along (types_of s) xs e).type wanted later at_last
    pub passing : PassingNeeds xs e at_last r

  -- what a written step adds
  abbrev pub WrittenNeeds : WrittenAxis → Env → NameSet → Needs → Needs → Type 0
  WrittenNeeds a e wanted later r = PartsNeeds (passing_axes a) (last_axis a) e wanted later r
