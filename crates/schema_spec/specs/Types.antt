-- What types are inferred from: the names of a schema, which holds which, below and above.
use Rattle.std.specs.Prelude.{Bool, false, ◌&&◌, T, eqb}
use Rattle.schema_spec.specs.Closure.{Relation, related, closure}
use Rattle.schema_spec.specs.Names.{Name, Names, element, text, names_of}
use Rattle.schema_spec.specs.Schemas.{Schema, content_at, model_at, is_pcdata}
use Rattle.text_spec.specs.Lists.{any_of}

-- "A **holds** B if B occurs in A's model, or B is A's text name."
unfoldable pub holds : Schema → Name → Name → Bool
holds s (element a) (element b) = any_of (eqb b) (model_at s a)
holds s (element a) (text b) = eqb a b && is_pcdata (content_at s a)
holds s (text a) b = false

-- ""Below" is one or more holdings down, "above" the reverse."
pub data Below (s : Schema) : Name → Name → Type 0 where
  held : {a b : Name} → T (holds s a b) → Below s a b
  further : {a b c : Name} → T (holds s a b) → Below s b c → Below s a c

-- all that the inference reads of a schema
pub record Types : Type 0 where
  pub names : Names
  pub root : Name
  pub holds : Name → Name → Bool
  pub below : Relation

unfoldable pub types_of : Schema → Types
types_of s = record { names = names_of s; root = element 0; holds = holds s; below = closure (names_of s) (holds s) }

-- b is below a, and a above b: the computing form
abbrev pub is_below : Types → Name → Name → Bool
is_below t a b = related t.below a b
