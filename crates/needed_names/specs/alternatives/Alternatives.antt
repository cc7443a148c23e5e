-- Alternatives from a type and a context: whether one of them ends with a type that is not empty, and what they need.
use Rattle.std.specs.Prelude.{Bool, not, ◌≡◌, ℕ}
use mathlib.Core.List.{List, [], ◌∷◌, Memᴰ}
use Rattle.inference.specs.declared.type_steps.Inferred.{Inferred}
use Rattle.inference.specs.type_steps.Envs.{env_in}
use Rattle.inference_spec.specs.Needed.{keeps_all, wants_nothing, need}
use Rattle.inference_spec.specs.Types.{Env, env, cut_to, infer_all}
use Rattle.names.specs.Sets.{set_in}
use Rattle.names.specs.codes.Codes.{name_of_code}
use Rattle.names.specs.declared.NameSet.{NameSet}
use Rattle.path_spec.specs.Paths.{PlainStep, expand}
use Rattle.schema_spec.specs.Names.{Names, names_of}
use Rattle.schema_spec.specs.Schemas.{Schema}
use Rattle.schema_spec.specs.Types.{types_of}
use Rattle.text_spec.specs.Lists.{any_of, gather, is_empty}

-- one name, in the context k cut to it and above it
abbrev pub FromName : Schema → NameSet → ℕ → Inferred → Type 0
FromName s k c r = Memᴰ (name_of_code c) (names_of s) → env_in s r ≡ env (name_of_code c ∷ []) (cut_to (types_of s) (name_of_code c ∷ []) (set_in s k))

-- the steps end with a type that is not empty
abbrev pub ends_some : Schema → Env → List (PlainStep ℕ) → Bool
ends_some s e q = not (is_empty (infer_all (types_of s) keeps_all (expand tt q) e).type)

abbrev pub any_ends_some : Schema → Env → List (List (PlainStep ℕ)) → Bool
any_ends_some s e qs = any_of (λ q. ends_some s e q) qs

abbrev pub need_of_all : Schema → Env → List (List (PlainStep ℕ)) → Names
need_of_all s e qs = gather (λ q. need (types_of s) keeps_all wants_nothing (expand tt q) e) qs
