-- Laws of alternatives, one and those after it.
use Rattle.std.specs.Prelude.{Bool, true, false, not, ◌||◌, ◌≡◌, refl, ℕ, ◌+◌, ◌-◌, ◌<◌, ◌≤◌, T, length}
use mathlib.Core.List.Memᴰ.{head as here}
use mathlib.Core.List.{List, [], ◌∷◌, ◌++◌, Memᴰ as In}
use Rattle.std.proofs.Common.{sym, ap, subst, ◌∙◌, arith}
use Rattle.compiled_paths.specs.Steps.{first_size, first-size-fits, first-size-some, plain_in, alternatives_in, alternatives-next}
use Rattle.compiled_paths.specs.declared.Step.{Step as CompiledStep}
use Rattle.inference_spec.specs.Needed.{keeps_all, wants_nothing, need}
use Rattle.inference_spec.specs.Types.{Env}
use Rattle.names.specs.SetLaws.{set_of-in, in-set_of, schema-every, every_element, every-text, overlap-some, element-overlap, text-overlap}
use Rattle.names.specs.Sets.{member, overlap, set_in, NamesOf}
use Rattle.names.specs.declared.NameSet.{NameSet}
use Rattle.needed_names.specs.alternatives.Alternatives.{ends_some, any_ends_some, need_of_all}
use Rattle.path_spec.specs.Paths.{PlainStep, expand}
use Rattle.schema_laws.specs.Names.{has_in, in-has}
use Rattle.schema_spec.specs.Names.{Name, Names, element, text, names_of, within}
use Rattle.schema_spec.specs.Schemas.{Schema}
use Rattle.schema_spec.specs.Types.{types_of}
use Rattle.text_laws.specs.Lists.{member-fills}
use Rattle.text_laws.specs.Tests.{not-intro, same_test}
use Rattle.text_spec.specs.Limits.{max_declarations}
use Rattle.text_spec.specs.Lists.{is_empty}

module _ (s : Schema) where
  -- a set overlaps with all names exactly if it has one of them
  pub overlap-some-set_in : length s ≤ max_declarations → (all t : NameSet) → NamesOf s all → overlap all t ≡ not (is_empty (set_in s t))
  overlap-some-set_in small all t named =
      same_test (overlap all t) (not (is_empty (set_in s t)))
      (λ h.
      let w = overlap-some all t h in
      not-intro (is_empty (set_in s t)) (member-fills (in-set_of t (has_in w.0 (names_of s) (subst T (named w.0) w.1)) w.2))) (λ h. back (set_in s t) refl h)
    where
      met : (n : Name) → In n (names_of s) → T (member t n) → T (overlap all t)
      met (element e) i m =
          let l = every_element e (schema-every s small (element e) i) in
          element-overlap all t e (omega arith) (subst T (sym (named (element e))) (in-has i)) m
      met (text e) i m =
          let l = every-text e (schema-every s small (text e) i) in
          text-overlap all t e (omega arith) (subst T (sym (named (text e))) (in-has i)) m

      back : (l : Names) → set_in s t ≡ l → T (not (is_empty l)) → T (overlap all t)
      back [] e h = absurd h
      back (n ∷ l) e h =
          let r = set_of-in (names_of s) t (subst (λ (x : Names). In n x) (sym e) (here refl)) in
          met n r.0 r.1

-- ---- alternatives, of which the first has some size
module _ (steps : List CompiledStep) (n k size : ℕ) (same : size ≡ first_size steps n k) where
  pub fewer-steps : (n ≡ 0 → ⊥) → n - size < n
  fewer-steps d =
      let l = first-size-some steps n k d in
      let f = first-size-fits steps n k in
      omega arith

  module _ (s : Schema) (e : Env) (left : n ≡ 0 → ⊥) where
    abbrev one : List (PlainStep ℕ)
    one = plain_in steps size k

    abbrev rest : List (List (PlainStep ℕ))
    rest = alternatives_in steps (n - size) (k + size)

    one-and-rest : one ∷ rest ≡ alternatives_in steps n k
    one-and-rest =
        ap (λ (x : ℕ). plain_in steps x k ∷ alternatives_in steps (n - x) (k + x)) same ∙ sym (alternatives-next steps n k left)

    pub first_ends : (b : Bool) → b ≡ true → b ≡ ends_some s e one → true ≡ any_ends_some s e (alternatives_in steps n k)
    first_ends b t h = ap (λ (x : Bool). x || any_ends_some s e rest) (sym t ∙ h) ∙ ap (any_ends_some s e) one-and-rest

    pub later-ends : (b r : Bool) → b ≡ false → b ≡ ends_some s e one → r ≡ any_ends_some s e rest → r ≡ any_ends_some s e (alternatives_in steps n k)
    later-ends b r t h g = g ∙ ap (λ (x : Bool). x || any_ends_some s e rest) (sym t ∙ h) ∙ ap (any_ends_some s e) one-and-rest

    pub need-one-and-rest : (r : NameSet) → set_in s r ≡ within (names_of s) (need (types_of s) keeps_all wants_nothing (expand tt one) e ++ need_of_all s e rest)
        → set_in s r ≡ within (names_of s) (need_of_all s e (alternatives_in steps n k))
    need-one-and-rest r h = h ∙ ap (λ (qs : List (List (PlainStep ℕ))). within (names_of s) (need_of_all s e qs)) one-and-rest
