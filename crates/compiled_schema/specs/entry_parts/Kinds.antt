-- What an element holds, by the number of its content's kind.
use Rattle.std.specs.Prelude.{Bool, true, false, cond, ◌&&◌, List, ◌≡◌, refl, ℕ, ◌<◌, eqb, ltb}
use Rattle.std.proofs.Common.{ap}
use Rattle.compiled_schema.specs.entry_parts.Entries.{is_text, is_one_of, is_held}
use Rattle.models.specs.Kinds.{pcdata_kind, children_kind, content_in}
use Rattle.models.specs.declared.Content.TheVariants.{Empty, Pcdata, Children}
use Rattle.models.specs.declared.Ends.{Ends}
use Rattle.schema_spec.specs.Names.{Name, element, text}

-- a name is held by element a, from the number of its kind and the elements of its model
abbrev pub is_held_by_kind : ℕ → ℕ → List ℕ → Name → Bool
is_held_by_kind a kind model (element b) = is_one_of model (element b)
is_held_by_kind a kind model (text b) = (eqb b a && ltb a 64) && eqb kind pcdata_kind

text-kind : (kind : ℕ) (e : Ends) → is_text (content_in kind e) ≡ eqb kind pcdata_kind
text-kind kind e = pick (eqb kind pcdata_kind) (eqb kind children_kind)
  where
    pick : (t c : Bool) → is_text (cond t Pcdata (cond c (Children e) Empty)) ≡ t
    pick true c = refl
    pick false true = refl
    pick false false = refl

pub held-by-kind : (a kind : ℕ) (e : Ends) (model : List ℕ) (n : Name) → is_held a (content_in kind e) model n ≡ is_held_by_kind a kind model n
held-by-kind a kind e model (element b) = refl
held-by-kind a kind e model (text b) = ap (λ (t : Bool). (eqb b a && ltb a 64) && t) (text-kind kind e)
