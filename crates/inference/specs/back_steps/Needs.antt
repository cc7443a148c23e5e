-- A step back, what one step adds to what the later steps need, and what steps need.
use Rattle.std.specs.Prelude.{Bool, ◌≡◌, ℕ}
use mathlib.Core.List.{List, ◌++◌, Memᴰ}
use Rattle.inference_spec.specs.Needed.{linked, between, complete, need}
use Rattle.inference_spec.specs.Types.{Env}
use Rattle.inference.specs.declared.back_steps.Needs.{Needs}
use Rattle.names.specs.Sets.{set_in}
use Rattle.names.specs.declared.NameSet.{NameSet}
use Rattle.path_spec.specs.Paths.{Axis, Step}
use Rattle.schema_spec.specs.Names.{Name, Names, has, within, names_of}
use Rattle.schema_spec.specs.Schemas.{Schema}
use Rattle.schema_spec.specs.Types.{Types, types_of}
use Rattle.text_spec.specs.Lists.{any_of, filter_by}

-- of the names of a schema, r has those from which the axis leads to one of h
abbrev pub RelatedTo : Schema → Axis → Names → Names → Type 0
RelatedTo s x h r = (n : Name) → Memᴰ n (names_of s) → has n r ≡ any_of (λ b. linked (types_of s) x n b) h

-- the names of t from which the axis leads to one of h
abbrev pub leading : Types → Axis → Names → Names → Names
leading s x h t = filter_by (λ a. any_of (λ b. linked s x a b) h) t

-- what a step adds, from its type t and what the later steps need
pub record StepNeeds (s : Schema) (x : Axis) (t : Names) (wanted : NameSet) (later r : Needs) : Type 0 where
  pub complete : set_in s r.complete ≡ leading (types_of s) x (set_in s later.complete) t
  pub names : (w l : Names) → set_in s wanted ≡ within (names_of s) w → set_in s later.names ≡ within (names_of s) l
      → set_in s r.names ≡ within (names_of s) (set_in s r.complete ++ (between (types_of s) x (set_in s r.complete) (set_in s later.complete) ++ (w ++ l)))

-- the sets have the names that walks to the last step start from, and what these walks need
pub record NeedsOf {C : Type 0} (s : Schema) (keeps : Names → C → Name → Bool) (wants : Names → C → Name → Names) (ps : List (Step ℕ C)) (e : Env) (r : Needs) : Type 0 where
  pub complete : set_in s r.complete ≡ complete (types_of s) keeps wants ps e
  pub names : set_in s r.names ≡ within (names_of s) (need (types_of s) keeps wants ps e)
