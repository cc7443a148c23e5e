-- The outcome of reading a schema text: refusals 2 to 7, or the schema.
use Rattle.std.specs.Prelude.{cond, not, List, [], ◌∷◌, ◌++◌, map, ℕ, drop}
use Rattle.schema_spec.specs.Declarations.{Use, Declaration}
use Rattle.schema_spec.specs.Machine.{parse}
use Rattle.schema_spec.specs.Models.{uses_in}
use Rattle.schema_spec.specs.Schemas.{Schema, declared_names, schema_of}
use Rattle.text_spec.specs.Limits.{max_declarations, max_model_names, max_schema_bytes}
use Rattle.text_spec.specs.Lists.{any_of, filter_by, gather, same_bytes}
use Rattle.text_spec.specs.Machines.{Parsed, spells, departs}
use Rattle.text_spec.specs.Refusals.{Refusal, Outcome, judged, at, all_at, bad_schema, over_schema_limit, declared_twice, undeclared_in_model}
use Rattle.text_spec.specs.Texts.{length_refusals, byte_refusals}

abbrev pub uses_of : Declaration → List Use
uses_of d = uses_in d.content

-- 5. "the `<` of the first declaration too many, or the first name too many"
abbrev pub limit_places : List Declaration → List ℕ
limit_places ds = map (λ d. d.place) (drop max_declarations ds) ++ gather (λ d. map (λ u. u.place) (drop max_model_names (uses_of d))) ds

-- 6. "An element is declared twice (the second name)": those declared among the names before
abbrev pub twice_places : List (List ℕ) → List Declaration → List ℕ
twice_places ns [] = []
twice_places ns (d ∷ ds) =
    let later = twice_places (d.name.name ∷ ns) ds in
    cond (any_of (same_bytes d.name.name) ns) (d.name.place ∷ later) later

-- 7. "A model names an undeclared element (that name)"
abbrev pub undeclared_places : List Declaration → List ℕ
undeclared_places ds =
    map (λ u. u.place) (filter_by (λ u. not (any_of (same_bytes u.name) (declared_names ds))) (gather uses_of ds))

-- 4 to 7
abbrev pub parsed_refusals : Parsed (List Declaration) → List Refusal
parsed_refusals (departs k) = at bad_schema k ∷ []
parsed_refusals (spells ds) = all_at over_schema_limit (limit_places ds) ++ (all_at declared_twice (twice_places [] ds) ++ all_at undeclared_in_model (undeclared_places ds))

abbrev pub parsed_schema : Parsed (List Declaration) → Schema
parsed_schema (departs k) = []
parsed_schema (spells ds) = schema_of ds

unfoldable pub schema_refusals : List ℕ → List Refusal
schema_refusals text = length_refusals max_schema_bytes text ++ (byte_refusals text ++ parsed_refusals (parse text))

unfoldable pub read_schema : List ℕ → Outcome Schema
read_schema text = judged (schema_refusals text) (parsed_schema (parse text))
