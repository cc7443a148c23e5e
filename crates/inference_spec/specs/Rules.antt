-- The rules for the type T and the context K (document 01, "Needed names"), a constructor for each, in its order: nothing is computed here.
use mathlib.Core.List.{List, [], ◌∷◌, map, Memᴰ}
use Rattle.std.specs.Prelude.{ℕ, T}
use Rattle.path_spec.specs.Paths.{Axis, self, child, descendant, descendant_or_self, parent, ancestor, ancestor_or_self, NodeTest, Step, PlainStep, Condition, unconditional, alternatives, Start, root_element, expand}
use Rattle.path_spec.specs.Selection.{Passes}
use Rattle.schema_spec.specs.Names.{Name, element}
use Rattle.schema_spec.specs.Schemas.{Schema}
use Rattle.schema_spec.specs.Types.{holds, Below}

-- "Carry a type T and a context K"
pub data Carried : Type 0 where
  type context : Carried

-- a point of a path, or of an alternative, at which T and K are looked at
pub data Point : Type 0 where
  -- at the start of a path
  at_start : Start → Point
  -- after the axis of a step whose test is this, after the test, after the condition
  after_axis : Point → Axis → NodeTest ℕ → Point
  after_test : Point → NodeTest ℕ → Point
  after_condition : Point → Condition ℕ → Point
  -- at the start of an alternative, from a name of the type before its condition
  alternative_from : Point → Name → Point

-- after the axis and the test of a step, and after all of it
abbrev pub tested : Point → Step ℕ (Condition ℕ) → Point
tested g p = after_test (after_axis g p.axis p.test) p.test

abbrev pub after_step : Point → Step ℕ (Condition ℕ) → Point
after_step g p = after_condition (tested g p) p.condition

abbrev pub after_steps : Point → List (Step ℕ (Condition ℕ)) → Point
after_steps g [] = g
after_steps g (p ∷ ps) = after_steps (after_step g p) ps

-- an alternative's "steps without brackets" as steps
abbrev pub without_brackets : Step ℕ (Unit {0}) → Step ℕ (Condition ℕ)
without_brackets p = record { written = p.written; axis = p.axis; test = p.test; condition = unconditional }

abbrev pub alternative_steps : List (PlainStep ℕ) → List (Step ℕ (Condition ℕ))
alternative_steps q = map without_brackets (expand tt q)

-- "these three downward axes", and the three that go up
pub data Downward : Axis → Type 0 where
  child-down : Downward child
  descendant-down : Downward descendant
  descendant-or-self-down : Downward descendant_or_self

pub data Upward : Axis → Type 0 where
  parent_up : Upward parent
  ancestor-up : Upward ancestor
  ancestor-or-self-up : Upward ancestor_or_self

module _ (s : Schema) where
  -- `AtOrAbove n b`: n is b, or above b
  pub data AtOrAbove : Name → Name → Type 0 where
    at : {b : Name} → AtOrAbove b b
    above : {n b : Name} → Below s n b → AtOrAbove n b

  -- `Member type g n`, `Member context g n`: at the point g the name n is in T, in K
  pub data Member : Carried → Point → Name → Type 0 where
    -- "both {root} at first"
    root-first : {k : Carried} → Member k (at_start root_element) (element 0)
    -- "self: T and K stay."
    self-stays : {k : Carried} {g : Point} {w : NodeTest ℕ} {n : Name} → Member k g n → Member k (after_axis g self w) n
    -- "child: T' = all that T holds."
    child-type : {g : Point} {w : NodeTest ℕ} {a n : Name} → Member type g a → T (holds s a n) → Member type (after_axis g child w) n
    -- "descendant: T' = all below T."
    descendant-type : {g : Point} {w : NodeTest ℕ} {a n : Name} → Member type g a → Below s a n → Member type (after_axis g descendant w) n
    -- "descendant-or-self: T added to that."
    descendant-or-self-type : {g : Point} {w : NodeTest ℕ} {n : Name} → Member type (after_axis g descendant w) n → Member type (after_axis g descendant_or_self w) n
    descendant-or-self-added : {g : Point} {w : NodeTest ℕ} {n : Name} → Member type g n → Member type (after_axis g descendant_or_self w) n
    -- "For these three downward axes K' = K with T' added, for child only those of T' that pass the step's test"
    downward-context : {g : Point} {x : Axis} {w : NodeTest ℕ} {n : Name} → Downward x → Member context g n → Member context (after_axis g x w) n
    child-added : {g : Point} {w : NodeTest ℕ} {n : Name} → Member type (after_axis g child w) n → Passes w n → Member context (after_axis g child w) n
    descendant-context : {g : Point} {w : NodeTest ℕ} {n : Name} → Member type (after_axis g descendant w) n → Member context (after_axis g descendant w) n
    descendant-or-self-context : {g : Point} {w : NodeTest ℕ} {n : Name} → Member type (after_axis g descendant_or_self w) n → Member context (after_axis g descendant_or_self w) n
    -- "parent: T' = those in K that hold a name of T."
    parent-type : {g : Point} {w : NodeTest ℕ} {b n : Name} → Member context g n → T (holds s n b) → Member type g b → Member type (after_axis g parent w) n
    -- "ancestor: those in K above T."
    ancestor-type : {g : Point} {w : NodeTest ℕ} {b n : Name} → Member context g n → Below s n b → Member type g b → Member type (after_axis g ancestor w) n
    -- "ancestor-or-self: T added to that."
    ancestor-or-self-type : {g : Point} {w : NodeTest ℕ} {n : Name} → Member type (after_axis g ancestor w) n → Member type (after_axis g ancestor_or_self w) n
    ancestor-or-self-added : {g : Point} {w : NodeTest ℕ} {n : Name} → Member type g n → Member type (after_axis g ancestor_or_self w) n
    -- "K' = K within T' and above T'."
    upward-context : {g : Point} {x : Axis} {w : NodeTest ℕ} {b n : Name} → Upward x → Member context g n → Member type (after_axis g x w) b → AtOrAbove n b
        → Member context (after_axis g x w) n
    -- "then the test filters T"
    test_type : {g : Point} {w : NodeTest ℕ} {n : Name} → Member type g n → Passes w n → Member type (after_test g w) n
    -- "K is cut to T and above T."
    test-context : {g : Point} {w : NodeTest ℕ} {b n : Name} → Member context g n → Member type (after_test g w) b → AtOrAbove n b → Member context (after_test g w) n
    -- a step without brackets: T and K stay
    no-condition : {k : Carried} {g : Point} {n : Name} → Member k g n → Member k (after_condition g unconditional) n
    -- "then a condition keeps name A of T if some alternative, started from type {A} and K cut to A and above A, ends with a type that isn't
    -- empty"
    condition-type : {g : Point} {qs : List (List (PlainStep ℕ))} {a n : Name} (q : List (PlainStep ℕ)) → Member type g a → Memᴰ q qs
        → Member type (after_steps (alternative_from g a) (alternative_steps q)) n → Member type (after_condition g (alternatives qs)) a
    -- "started from type {A}"
    alternative-type : {g : Point} {a : Name} → Member type (alternative_from g a) a
    -- "and K cut to A and above A"
    alternative-context : {g : Point} {a n : Name} → Member context g n → AtOrAbove n a → Member context (alternative_from g a) n
    -- "K is cut again."
    condition-context : {g : Point} {qs : List (List (PlainStep ℕ))} {b n : Name} → Member context g n → Member type (after_condition g (alternatives qs)) b → AtOrAbove n b
        → Member context (after_condition g (alternatives qs)) n
