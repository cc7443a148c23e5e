-- Names by their codes: bit e of 64 is element e's, bit 32 + e its text name's.
use Rattle.std.specs.Prelude.{cond, ℕ, ◌-◌, ltb}
use Rattle.schema_spec.specs.Names.{Name, element, text}
use Rattle.text_spec.specs.Limits.{max_declarations}

-- the name of a code below 64
unfoldable pub name_of_code : ℕ → Name
name_of_code c = cond (ltb c max_declarations) (element c) (text (c - max_declarations))
