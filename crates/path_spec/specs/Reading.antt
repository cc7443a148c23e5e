-- The outcome of reading a bundle text under a schema: refusals 2, 3, 8, 9 and 10, or the paths.
use Rattle.std.specs.Prelude.{Bool, ◌||◌, List, [], ◌∷◌, ◌++◌, map, ℕ, suc, leb, ltb, length}
use Rattle.path_spec.specs.Grammar.{PathRead}
use Rattle.path_spec.specs.Machine.{parse}
use Rattle.path_spec.specs.Paths.{Condition, condition_paths, LocationPath, path_uses, resolved_path}
use Rattle.schema_spec.specs.Declarations.{Use}
use Rattle.schema_spec.specs.Schemas.{Schema, element_named}
use Rattle.text_spec.specs.Limits.{max_steps, max_alternatives, max_alternative_steps, max_path_bytes, max_paths, max_bundle_bytes}
use Rattle.text_spec.specs.Lists.{any_of, filter_by, gather, is_none}
use Rattle.text_spec.specs.Machines.{Parsed, spells, departs}
use Rattle.text_spec.specs.Refusals.{Refusal, Outcome, judged, is_accepted, at, all_at, given, bad_path, over_path_limit, undeclared_in_path}
use Rattle.text_spec.specs.Texts.{length_refusals, byte_refusals}

-- what is too much of a condition, over all its paths
abbrev pub passes_condition_limit : Condition Use → Bool
passes_condition_limit c = ltb max_alternatives (length (condition_paths c)) || any_of (λ a. ltb max_alternative_steps (length a)) (condition_paths c)

-- 9. "The limit of paths, steps, alternatives or a path's 512 bytes is passed": for the path with i before it
abbrev pub passes_limit : ℕ → PathRead → Bool
passes_limit i p =
    leb max_paths i || (ltb max_steps (length p.path.steps) || (ltb max_path_bytes p.size || any_of (λ q. passes_condition_limit q.condition) p.path.steps))

abbrev pub limit_refusals : ℕ → List PathRead → List Refusal
limit_refusals i [] = []
limit_refusals i (p ∷ ps) = given (passes_limit i p) (at over_path_limit p.place) ++ limit_refusals (suc i) ps

-- 10. "A path names an undeclared element (that name)."
abbrev pub undeclared_places : Schema → List PathRead → List ℕ
undeclared_places s ps = map (λ u. u.place) (filter_by (λ u. is_none (element_named s u.name)) (gather (λ p. path_uses p.path) ps))

abbrev pub parsed_refusals : Schema → Parsed (List PathRead) → List Refusal
parsed_refusals s (departs k) = at bad_path k ∷ []
parsed_refusals s (spells ps) = limit_refusals 0 ps ++ all_at undeclared_in_path (undeclared_places s ps)

abbrev pub parsed_paths : Schema → Parsed (List PathRead) → List (LocationPath ℕ)
parsed_paths s (departs k) = []
parsed_paths s (spells ps) = map (λ p. resolved_path s p.path) ps

unfoldable pub bundle_refusals : Schema → List ℕ → List Refusal
bundle_refusals s text = length_refusals max_bundle_bytes text ++ (byte_refusals text ++ parsed_refusals s (parse text))

unfoldable pub read_bundle : Schema → List ℕ → Outcome (List (LocationPath ℕ))
read_bundle s text = judged (bundle_refusals s text) (parsed_paths s (parse text))

-- Refusal 1: the record that the reader hands back is the accepted text itself, so the records that it can produce under a schema
-- are the texts that it accepts.
unfoldable pub is_bundle_record : Schema → List ℕ → Bool
is_bundle_record s r = is_accepted (read_bundle s r)
