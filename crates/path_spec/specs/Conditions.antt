-- When and where refusals 2, 3, 8, 9 and 10 apply to a bundle text, and what it gives: no machine is mentioned.
use mathlib.Core.List.{List, map, Memᴰ}
use Rattle.std.proofs.Math.Option.{none}
use Rattle.std.specs.Prelude.{◌≡◌, ℕ, ◌<◌, ◌≤◌, length}
use Rattle.path_spec.specs.Grammar.{PathRead, BundleText}
use Rattle.path_spec.specs.Paths.{WrittenStep, PlainStep, Condition, condition_paths, LocationPath, path_uses, resolved_path}
use Rattle.schema_spec.specs.Declarations.{Use}
use Rattle.schema_spec.specs.Schemas.{Schema, element_named}
use Rattle.text_spec.specs.Limits.{max_steps, max_alternatives, max_alternative_steps, max_path_bytes, max_paths, max_bundle_bytes}
use Rattle.text_spec.specs.Refusals.{Reason, bad_length, bad_byte, bad_path, over_path_limit, undeclared_in_path}
use Rattle.text_spec.specs.Texts.{SplitAt, LengthApplies, ByteApplies, Departs}

abbrev pub Grammatical : List ℕ → Type 0
Grammatical text = (ps : List PathRead) × BundleText 0 text ps

-- 9. what is too much of the path with i before it
pub data TooMuch (i : ℕ) (p : PathRead) : Type 0 where
  paths : max_paths ≤ i → TooMuch i p
  steps : max_steps < length p.path.steps → TooMuch i p
  path_bytes : max_path_bytes < p.size → TooMuch i p
  condition_count : (q : WrittenStep Use (Condition Use)) → Memᴰ q p.path.steps → max_alternatives < length (condition_paths q.condition) → TooMuch i p
  condition_steps : (q : WrittenStep Use (Condition Use)) (a : List (PlainStep Use)) → Memᴰ q p.path.steps → Memᴰ a (condition_paths q.condition)
      → max_alternative_steps < length a → TooMuch i p

pub data OverLimit (ps : List PathRead) : ℕ → Type 0 where
  over : {i : ℕ} (s : SplitAt ps i) → TooMuch i s.here → OverLimit ps s.here.place

-- 10. a name in a path that the schema does not declare
pub data Undeclared (s : Schema) (ps : List PathRead) : ℕ → Type 0 where
  undeclared : (p : PathRead) (u : Use) → Memᴰ p ps → Memᴰ u (path_uses p.path) → element_named s u.name ≡ none → Undeclared s ps u.place

pub data BundleApplies (s : Schema) (text : List ℕ) : Reason → ℕ → Type 0 where
  length-2 : {k : ℕ} → LengthApplies max_bundle_bytes text k → BundleApplies s text bad_length k
  byte-3 : {k : ℕ} → ByteApplies text k → BundleApplies s text bad_byte k
  grammar-8 : {k : ℕ} → Departs Grammatical text k → BundleApplies s text bad_path k
  limit-9 : {ps : List PathRead} {k : ℕ} → BundleText 0 text ps → OverLimit ps k → BundleApplies s text over_path_limit k
  undeclared-10 : {ps : List PathRead} {k : ℕ} → BundleText 0 text ps → Undeclared s ps k → BundleApplies s text undeclared_in_path k

pub data BundleGives (s : Schema) (text : List ℕ) : List (LocationPath ℕ) → Type 0 where
  gives : {ps : List PathRead} → BundleText 0 text ps → BundleGives s text (map (λ p. resolved_path s p.path) ps)
