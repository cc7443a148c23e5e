-- What reading an extract needs of a schema's names, and that every schema has it.
use Rattle.std.specs.Prelude.{◌≡◌, refl, ℕ, T, eqb}
use Rattle.std.proofs.Common.{ap, eqb→eq}
use Rattle.schema_spec.specs.Names.{element, text, Name}
use Rattle.schema_spec.specs.Schemas.{Schema, content_at, is_pcdata}
use Rattle.schema_spec.specs.Types.{Types, types_of, holds}
use Rattle.text_laws.specs.Tests.{and_cases}

-- a text name is held only by its own element and holds nothing, and the root is an element
pub record TextNames (s : Types) : Type 0 where
  pub held_by_own : (a : Name) (e : ℕ) → T (s.holds a (text e)) → a ≡ element e
  pub holds_nothing : (e : ℕ) (b : Name) → T (s.holds (text e) b) → ⊥
  pub root_element : (e : ℕ) × (s.root ≡ element e)

pub text-names : (schema : Schema) → TextNames (types_of schema)
unfolding types_of holds
text-names schema = record { held_by_own = own; holds_nothing = nothing; root_element = (0, refl) }
  where
    own : (a : Name) (e : ℕ) → T (holds schema a (text e)) → a ≡ element e
    own (element a) e t = ap element (eqb→eq a e (and_cases (eqb a e) (is_pcdata (content_at schema a)) t).0)
    own (text a) e t = absurd t

    nothing : (e : ℕ) (b : Name) → T (holds schema (text e) b) → ⊥
    nothing e b t = t
