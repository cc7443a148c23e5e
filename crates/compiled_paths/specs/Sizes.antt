-- How many steps a bundle text can have: a step takes at least seven bytes, and the one that parts it from what follows.
use Rattle.std.specs.Prelude.{List, [], ◌∷◌, ◌++◌, ℕ, ◌+◌, ◌*◌, ◌≤◌, T, length}
use Rattle.std.proofs.Common.{arith, length-append}
use Rattle.path_spec.specs.Grammar.{PathRead, TestText, a-name, any-node, any-text, PlainText, plain, AlternativeText, one-step, more-steps, ConditionText, one-alternative, more-alternatives, StepText, bare, conditional, PathText, last_step, next-step, BundleText, last-path, next-path, or_word}
use Rattle.path_spec.specs.Paths.{self, child, descendant, descendant_or_self, parent, ancestor, ancestor_or_self, WrittenAxis, along, following, following_sibling, preceding, preceding_sibling, spell_axis, NodeTest, WrittenStep, PlainStep, Condition, condition_paths}
use Rattle.schema_spec.specs.Declarations.{Use}
use Rattle.text_spec.specs.Bytes.{is_name}
use Rattle.text_spec.specs.Limits.{max_paths, max_steps, max_alternatives, max_bundle_bytes}

abbrev pub step_bytes : ℕ
step_bytes = 8

-- the steps outside brackets
abbrev pub written_steps : ℕ
written_steps = max_paths * max_steps

abbrev pub all_alternatives : ℕ
all_alternatives = written_steps * max_alternatives

-- the steps in brackets: with a step outside them 513, and 4,104 bytes hold no more
abbrev pub inner_steps : ℕ
inner_steps = 512

abbrev pub all_steps : ℕ
all_steps = written_steps + inner_steps

-- ---- steps counted
abbrev pub steps_of_all : {A : Type 0} → List (List A) → ℕ
steps_of_all [] = 0
steps_of_all (q ∷ qs) = length q + steps_of_all qs

-- in the brackets of steps
abbrev pub bracketed_steps : {A : Type 0} → List (WrittenStep A (Condition A)) → ℕ
bracketed_steps [] = 0
bracketed_steps (p ∷ ps) = steps_of_all (condition_paths p.condition) + bracketed_steps ps

-- in and out of brackets
abbrev pub steps_of : List PathRead → ℕ
steps_of [] = 0
steps_of (p ∷ ps) = length p.path.steps + bracketed_steps p.path.steps + steps_of ps

-- ---- bytes for each
axis-bytes : (a : WrittenAxis) → 6 ≤ length (spell_axis a)
axis-bytes (along self) = omega arith
axis-bytes (along child) = omega arith
axis-bytes (along descendant) = omega arith
axis-bytes (along descendant_or_self) = omega arith
axis-bytes (along parent) = omega arith
axis-bytes (along ancestor) = omega arith
axis-bytes (along ancestor_or_self) = omega arith
axis-bytes following = omega arith
axis-bytes following_sibling = omega arith
axis-bytes preceding = omega arith
axis-bytes preceding_sibling = omega arith

name-bytes : (n : List ℕ) → T (is_name n) → 1 ≤ length n
name-bytes [] t = absurd t
name-bytes (b ∷ n) t = omega arith

test-bytes : {k : ℕ} {w : List ℕ} {t : NodeTest Use} → TestText k w t → 1 ≤ length w
test-bytes (a-name n t) = name-bytes n t
test-bytes any-node = omega arith
test-bytes any-text = omega arith

plain-bytes : {k : ℕ} {w : List ℕ} {p : PlainStep Use} → PlainText k w p → 8 ≤ length w + 1
plain-bytes (plain {w = w} a t) =
    let x = axis-bytes a in
    let y = test-bytes t in
    omega (arith, length-append (spell_axis a) w)

alternative-bytes : {k : ℕ} {w : List ℕ} {q : List (PlainStep Use)} → AlternativeText k w q → length q * 8 ≤ length w + 1
alternative-bytes (one-step p) = let x = plain-bytes p in omega arith
alternative-bytes (more-steps {w = w} {r = r} p a) =
    let x = plain-bytes p in
    let y = alternative-bytes a in
    omega (arith, length-append w (0x2F ∷ r))

condition-bytes : {k : ℕ} {w : List ℕ} {qs : List (List (PlainStep Use))} → ConditionText k w qs → steps_of_all qs * 8 ≤ length w + 1
condition-bytes (one-alternative a) = let x = alternative-bytes a in omega arith
condition-bytes (more-alternatives {w = w} {r = r} a c) =
    let x = alternative-bytes a in
    let y = condition-bytes c in
    omega (arith, length-append w (or_word ++ r), length-append or_word r)

step-bytes : {k : ℕ} {w : List ℕ} {p : WrittenStep Use (Condition Use)} → StepText k w p → (1 + steps_of_all (condition_paths p.condition)) * 8 ≤ length w + 1
step-bytes (bare p) = let x = plain-bytes p in omega arith
step-bytes (conditional {w = w} {r = r} p c) =
    let x = plain-bytes p in
    let y = condition-bytes c in
    omega (arith, length-append w (0x5B ∷ (r ++ (0x5D ∷ []))), length-append r (0x5D ∷ []))

path_bytes : {k : ℕ} {w : List ℕ} {ps : List (WrittenStep Use (Condition Use))} → PathText k w ps → (length ps + bracketed_steps ps) * 8 ≤ length w + 1
path_bytes (last_step p) = let x = step-bytes p in omega arith
path_bytes (next-step {w = w} {r = r} p q) =
    let x = step-bytes p in
    let y = path_bytes q in
    omega (arith, length-append w (0x2F ∷ r))

-- so many steps take at least so many bytes
pub steps-bytes : {k : ℕ} {w : List ℕ} {ps : List PathRead} → BundleText k w ps → steps_of ps * step_bytes ≤ length w
steps-bytes (last-path {w = w} p) =
    let x = path_bytes p in
    omega (arith, length-append w (0x0A ∷ []))
steps-bytes (next-path {w = w} {r = r} p q) =
    let x = path_bytes p in
    let y = steps-bytes q in
    omega (arith, length-append w (0x0A ∷ r))

-- a bundle text has at most 513 steps in and out of brackets
pub steps-few : {w : List ℕ} {ps : List PathRead} → BundleText 0 w ps → length w ≤ max_bundle_bytes → steps_of ps ≤ inner_steps + 1
steps-few b h =
    let x = steps-bytes b in
    omega arith
