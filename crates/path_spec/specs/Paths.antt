-- Paths as values: axes, node tests, conditions, steps as written and steps as analysed; the names in a path.
use Rattle.std.specs.Prelude.{List, [], ◌∷◌, ◌++◌, map, ℕ, suc}
use Rattle.schema_spec.specs.Declarations.{Use}
use Rattle.schema_spec.specs.Schemas.{Schema, element_named}
use Rattle.text_spec.specs.Lists.{bytes, gather, value_or}

-- "Axes: self, child, descendant, descendant-or-self, parent, ancestor, ancestor-or-self."
pub data Axis : Type 0 where
  self child descendant descendant_or_self parent ancestor ancestor_or_self : Axis

-- The axes that a path may be written with: the seven, and by document 02, R-1, "following-sibling, preceding-sibling, following and
-- preceding". Each is analysed by way of the seven.
pub data WrittenAxis : Type 0 where
  along : Axis → WrittenAxis
  following following_sibling preceding preceding_sibling : WrittenAxis

abbrev pub written_axes : List WrittenAxis
written_axes =
    along self ∷ along child ∷ along descendant ∷ along descendant_or_self ∷ along parent ∷ along ancestor ∷ along ancestor_or_self ∷ following ∷ following_sibling ∷ preceding
    ∷ preceding_sibling ∷ []

-- how an axis is written, with its `::`
abbrev pub spell_axis : WrittenAxis → List ℕ
spell_axis (along self) = bytes "self::"
spell_axis (along child) = bytes "child::"
spell_axis (along descendant) = bytes "descendant::"
spell_axis (along descendant_or_self) = bytes "descendant-or-self::"
spell_axis (along parent) = bytes "parent::"
spell_axis (along ancestor) = bytes "ancestor::"
spell_axis (along ancestor_or_self) = bytes "ancestor-or-self::"
spell_axis following = bytes "following::"
spell_axis following_sibling = bytes "following-sibling::"
spell_axis preceding = bytes "preceding::"
spell_axis preceding_sibling = bytes "preceding-sibling::"

-- "Tests: an element name, `node()`, `text()`", over names of some kind
pub data NodeTest (A : Type 0) : Type 0 where
  named : A → NodeTest A
  any_node : NodeTest A
  any_text : NodeTest A

-- a step as it is written, with a condition of some kind
pub record WrittenStep (A C : Type 0) : Type 0 where
  pub axis : WrittenAxis
  pub test : NodeTest A
  pub condition : C

-- steps without brackets
abbrev pub PlainStep : Type 0 → Type 0
PlainStep A = WrittenStep A (Unit {0})

-- what stands in the brackets of a step: nothing where it has none, else "1 to 4 alternatives, steps without brackets"
pub data Condition (A : Type 0) : Type 0 where
  unconditional : Condition A
  alternatives : List (List (PlainStep A)) → Condition A

-- the paths in a condition, in their order
abbrev pub condition_paths : {A : Type 0} → Condition A → List (List (PlainStep A))
condition_paths unconditional = []
condition_paths (alternatives qs) = qs

-- "A path starts at the root element"
pub data Start : Type 0 where
  root_element : Start

pub record LocationPath (A : Type 0) : Type 0 where
  pub start : Start
  pub steps : List (WrittenStep A (Condition A))

abbrev pub from_root_element : {A : Type 0} → List (WrittenStep A (Condition A)) → LocationPath A
from_root_element ps = record { start = root_element; steps = ps }

-- a step as it is analysed, with the number of the written step that it comes from, counted from 1
pub record Step (A C : Type 0) : Type 0 where
  pub written : ℕ
  pub axis : Axis
  pub test : NodeTest A
  pub condition : C

module _ {A C : Type 0} (no_condition : C) where
  -- a step `node()` without a condition, in front of the last part of the written step of number i
  abbrev pub passing : ℕ → Axis → Step A C
  passing i a = record { written = i; axis = a; test = any_node; condition = no_condition }

  -- "a sibling axis counts as parent::node()/child::test"
  abbrev pub sibling_steps : ℕ → NodeTest A → C → List (Step A C)
  sibling_steps i t c = passing i parent ∷ record { written = i; axis = child; test = t; condition = c } ∷ []

  -- "Following and preceding are first rewritten by way of ancestor-or-self, the sibling axis and descendant-or-self"
  abbrev pub order_steps : ℕ → NodeTest A → C → List (Step A C)
  order_steps i t c = passing i ancestor_or_self ∷ (sibling_steps i any_node no_condition ++ (record { written = i; axis = descendant_or_self; test = t; condition = c } ∷ []))

  -- The steps by which the written step of number i is analysed. Test and condition stand on the last part.
  abbrev pub expand_step : ℕ → WrittenAxis → NodeTest A → C → List (Step A C)
  expand_step i (along a) t c = record { written = i; axis = a; test = t; condition = c } ∷ []
  expand_step i following t c = order_steps i t c
  expand_step i following_sibling t c = sibling_steps i t c
  expand_step i preceding t c = order_steps i t c
  expand_step i preceding_sibling t c = sibling_steps i t c

  -- the first step has the number i
  abbrev pub expand_from : ℕ → List (WrittenStep A C) → List (Step A C)
  expand_from i [] = []
  expand_from i (p ∷ ps) = expand_step i p.axis p.test p.condition ++ expand_from (suc i) ps

  abbrev pub expand : List (WrittenStep A C) → List (Step A C)
  expand ps = expand_from 1 ps

module _ {A B : Type 0} (f : A → B) where
  abbrev pub rename_test : NodeTest A → NodeTest B
  rename_test (named a) = named (f a)
  rename_test any_node = any_node
  rename_test any_text = any_text

  abbrev pub rename_plain : PlainStep A → PlainStep B
  rename_plain p = record { axis = p.axis; test = rename_test p.test; condition = tt }

  abbrev pub rename_condition : Condition A → Condition B
  rename_condition unconditional = unconditional
  rename_condition (alternatives qs) = alternatives (map (map rename_plain) qs)

  abbrev pub rename_step : WrittenStep A (Condition A) → WrittenStep B (Condition B)
  rename_step p = record { axis = p.axis; test = rename_test p.test; condition = rename_condition p.condition }

  abbrev pub rename_path : LocationPath A → LocationPath B
  rename_path p = record { start = p.start; steps = map rename_step p.steps }

-- the names that a path is written with, in their order
abbrev pub test_uses : {A : Type 0} → NodeTest A → List A
test_uses (named a) = a ∷ []
test_uses any_node = []
test_uses any_text = []

abbrev pub path_uses : {A : Type 0} → LocationPath A → List A
path_uses p = gather (λ q. test_uses q.test ++ gather (gather (λ r. test_uses r.test)) (condition_paths q.condition)) p.steps

-- the path with its elements by index; an undeclared name gets index 0, which is never seen: refusal 10 applies
abbrev pub resolved_path : Schema → LocationPath Use → LocationPath ℕ
resolved_path s p = rename_path (λ u. value_or 0 (element_named s u.name)) p
