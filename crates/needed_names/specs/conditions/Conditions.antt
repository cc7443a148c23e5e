-- What a condition keeps and what it wants, from one name at a time.
use Rattle.std.specs.Prelude.{Bool, [], ◌∷◌, ℕ}
use Rattle.inference_spec.specs.Needed.{keeps_name, wants_names}
use Rattle.inference_spec.specs.Types.{cut_to}
use Rattle.names.specs.Sets.{set_in}
use Rattle.names.specs.declared.NameSet.{NameSet}
use Rattle.path_spec.specs.Paths.{Condition}
use Rattle.schema_spec.specs.Names.{Name, Names}
use Rattle.schema_spec.specs.Schemas.{Schema}
use Rattle.schema_spec.specs.Types.{types_of}

-- the condition q keeps a name, in the context k cut to it and above it
abbrev pub keeps_in : Schema → NameSet → Condition ℕ → Name → Bool
keeps_in s k q a = keeps_name (types_of s) (cut_to (types_of s) (a ∷ []) (set_in s k)) q a

-- what the condition q wants from a name
abbrev pub wants_in : Schema → NameSet → Condition ℕ → Name → Names
wants_in s k q a = wants_names (types_of s) (cut_to (types_of s) (a ∷ []) (set_in s k)) q a
