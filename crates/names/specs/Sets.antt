-- What a `NameSet` means: which names are in it, and the set of names that it is, among some names.
use Rattle.std.specs.Prelude.{Bool, ◌&&◌, ◌||◌, ◌≡◌, ℕ, zero, suc, T}
use mathlib.Core.List.{[], ◌∷◌, Memᴰ}
use Rattle.names.specs.declared.NameSet.{NameSet}
use Rattle.schema_spec.specs.Models.{pcdata}
use Rattle.schema_spec.specs.Names.{Name, Names, element, text, has, names_of, has_bit}
use Rattle.schema_spec.specs.Schemas.{Schema}
use Rattle.text_spec.specs.Limits.{max_declarations}
use Rattle.text_spec.specs.Lists.{filter_by, any_below}

-- bit e of `elements` stands for element e, bit e of `texts` for its text name
abbrev pub member : NameSet → Name → Bool
member s (element e) = has_bit s.elements e
member s (text e) = has_bit s.texts e

-- those of the names that are in the set, in their order
unfoldable pub set_of : Names → NameSet → Names
set_of names s = filter_by (member s) names

-- those names of the schema that are in the set, in their order
abbrev pub set_in : Schema → NameSet → Names
set_in s x = set_of (names_of s) x

-- the set has exactly the names of the schema
abbrev pub NamesOf : Schema → NameSet → Type 0
NamesOf s all = (n : Name) → member all n ≡ has n (names_of s)

-- the set has only names of the schema
abbrev pub Known : Schema → NameSet → Type 0
Known s x = (n : Name) → T (member x n) → Memᴰ n (names_of s)

-- the set of no name
abbrev pub nothing : NameSet
nothing = record { elements = 0; texts = 0 }

-- a schema of n elements of character data: each has a text name
abbrev pub largest : ℕ → Schema
largest zero = []
largest (suc n) = record { name = []; content = pcdata } ∷ largest n

-- every name that has a place among 64 bits
unfoldable pub every_name : Names
every_name = names_of (largest max_declarations)

-- some name is in both sets
unfoldable pub overlap : NameSet → NameSet → Bool
overlap s t = any_below 64 (λ e. member s (element e) && member t (element e)) || any_below 64 (λ e. member s (text e) && member t (text e))
