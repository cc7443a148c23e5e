-- Laws of steps back, of names between, and of sets as lists in which a name may stand twice.
use Rattle.std.specs.Prelude.{Bool, ◌&&◌, ◌≡◌, ℕ}
use Rattle.std.proofs.Math.Bool.{true, false, ◌||◌}
use mathlib.Core.List.Memᴰ.{append_cases}
use mathlib.Core.List.Memᴰ.{append_left}
use mathlib.Core.List.Memᴰ.{append_right}
use mathlib.Core.List.{List, [], ◌∷◌, ◌++◌, Memᴰ as In}
use Rattle.std.proofs.Common.{⊎_elim, ◌∙◌}
use Rattle.std.proofs.Math.Path.{refl, sym, ap, ap₂}
use Rattle.compiled_paths.specs.Steps.{axis_of}
use Rattle.compiled_paths.specs.declared.Axis.{Axis as CompiledAxis}
use Rattle.compiled_paths.specs.declared.Axis.TheVariants.{SelfNode, Child, Descendant, DescendantOrSelf, Parent, Ancestor, AncestorOrSelf, Following, FollowingSibling, Preceding, PrecedingSibling}
use Rattle.inference_spec.specs.Needed.{linked, between, complete, need}
use Rattle.inference_spec.specs.Types.{Env, held_by, holding, all_below, all_above, union_of, cut_to, infer}
use Rattle.inference.specs.back_steps.Needs.{RelatedTo, leading, StepNeeds, NeedsOf}
use Rattle.inference.specs.declared.back_steps.Needs.{Needs}
use Rattle.names.specs.SetLaws.{has-filter, has-set_of, set_of-in}
use Rattle.names.specs.Sets.{member, set_of, set_in}
use Rattle.names.specs.declared.NameSet.{NameSet}
use Rattle.path_spec.specs.Paths.{Axis, self, child, descendant, descendant_or_self, parent, ancestor, ancestor_or_self, Step}
use Rattle.schema_laws.specs.Names.{has_in, in-has}
use Rattle.schema_spec.specs.Names.{Name, Names, same_name, has, within, names_of}
use Rattle.schema_spec.specs.Schemas.{Schema}
use Rattle.schema_spec.specs.Types.{Types, holds, types_of, is_below}
use Rattle.text_laws.specs.Lists.{filter-cong, memberless}
use Rattle.text_laws.specs.Tests.{or_left, or_right, or_cases, true_of, failed, same_test}
use Rattle.text_spec.specs.Lists.{any_of, filter_by, gather}

any-or : (f g : Name → Bool) (h : Names) → any_of (λ b. f b || g b) h ≡ (any_of f h || any_of g h)
any-or f g [] = refl
any-or f g (b ∷ h) = ap (λ (z : Bool). (f b || g b) || z) (any-or f g h) ∙ swap (f b) (g b) (any_of f h) (any_of g h)
  where
    swap : (p q r t : Bool) → ((p || q) || (r || t)) ≡ ((p || r) || (q || t))
    swap true q r t = refl
    swap false true true t = refl
    swap false true false t = refl
    swap false false r t = refl

module _ (s : Schema) where
  abbrev types : Types
  types = types_of s

  -- ---- steps back
  has-names-filter : (f : Name → Bool) (n : Name) → In n (names_of s) → has n (filter_by f (names_of s)) ≡ f n
  has-names-filter f n i = has-filter f (names_of s) n ∙ ap (λ (b : Bool). b && f n) (true_of (has n (names_of s)) (in-has i))

  pub holding-related : (h r : Names) → r ≡ holding types h → RelatedTo s child h r
  unfolding types_of
  holding-related h r e n i = ap (has n) e ∙ has-names-filter (λ m. any_of (λ b. holds s m b) h) n i

  pub all_above-related : (h r : Names) → r ≡ all_above types h → RelatedTo s descendant h r
  unfolding types_of
  all_above-related h r e n i = ap (has n) e ∙ has-names-filter (λ m. any_of (λ b. is_below types m b) h) n i

  pub held_by-related : (h r : Names) → r ≡ held_by types h → RelatedTo s parent h r
  unfolding types_of
  held_by-related h r e n i = ap (has n) e ∙ has-names-filter (λ m. any_of (λ b. holds s b m) h) n i

  pub all_below-related : (h r : Names) → r ≡ all_below types h → RelatedTo s ancestor h r
  unfolding types_of
  all_below-related h r e n i = ap (has n) e ∙ has-names-filter (λ m. any_of (λ b. is_below types b m) h) n i

  either-related : (h u : Names) (f : Name → Name → Bool) (n : Name) → In n (names_of s) → has n u ≡ any_of (f n) h → has n (union_of types h u) ≡ any_of (λ b. same_name n b || f n b) h
  unfolding types_of
  either-related h u f n i e = has-names-filter (λ m. has m h || has m u) n i ∙ ap (λ (b : Bool). has n h || b) e ∙ sym (any-or (same_name n) (f n) h)

  pub descendant_or_self-related : (h r : Names) → r ≡ union_of types h (all_above types h) → RelatedTo s descendant_or_self h r
  descendant_or_self-related h r e n i = ap (has n) e ∙ either-related h (all_above types h) (λ a b. is_below types a b) n i (all_above-related h (all_above types h) refl n i)

  pub ancestor_or_self-related : (h r : Names) → r ≡ union_of types h (all_below types h) → RelatedTo s ancestor_or_self h r
  ancestor_or_self-related h r e n i = ap (has n) e ∙ either-related h (all_below types h) (λ a b. is_below types b a) n i (all_below-related h (all_below types h) refl n i)

  pub self-related : (h : Names) → RelatedTo s self h h
  self-related h n i = refl

  pub related-along : (x y : Axis) (h r : Names) → x ≡ y → RelatedTo s y h r → RelatedTo s x h r
  related-along x y h r e k n i = k n i ∙ ap (λ (z : Axis). any_of (λ b. linked types z n b) h) (sym e)

  pub related-leading : (x : Axis) (t r : NameSet) (h near : Names) → RelatedTo s x h near → set_in s r ≡ within (set_in s t) near → set_in s r ≡ leading types x h (set_in s t)
  related-leading x t r h near k e =
      e ∙ filter-cong (λ n. has n near) (λ a. any_of (λ b. linked types x a b) h) (set_in s t) (λ n i. k n (set_of-in (names_of s) t i).0)

  -- ---- names between
  pub within-inner : (g h down up r : Names) → down ≡ all_below types g → up ≡ all_above types h → r ≡ within down up → r ≡ within (all_below types g) (all_above types h)
  within-inner g h down up r e d f = f ∙ ap₂ within e d

  pub between-along : (x y : Axis) (g h r : Names) → x ≡ y → r ≡ between types y g h → r ≡ between types x g h
  between-along x y g h r e f = f ∙ ap (λ (z : Axis). between types z g h) (sym e)

  pub empty-set_in : (r : NameSet) → ((n : Name) → member r n ≡ false) → set_in s r ≡ []
  empty-set_in r h = memberless (set_in s r) (λ n i. failed (h n) (set_of-in (names_of s) r i).1)

  pub none_between : (x : CompiledAxis) (g h : Names) → (x ≡ Descendant → ⊥) → (x ≡ DescendantOrSelf → ⊥) → between types (axis_of x) g h ≡ []
  none_between Descendant g h d e = absurd (d refl)
  none_between DescendantOrSelf g h d e = absurd (e refl)
  none_between SelfNode g h d e = refl
  none_between Child g h d e = refl
  none_between Parent g h d e = refl
  none_between Ancestor g h d e = refl
  none_between AncestorOrSelf g h d e = refl
  none_between Following g h d e = refl
  none_between FollowingSibling g h d e = refl
  none_between Preceding g h d e = refl
  none_between PrecedingSibling g h d e = refl

  -- ---- sets as lists in which a name may stand twice
  pub set_in-within : (x : NameSet) (l : Names) → set_in s x ≡ l → set_in s x ≡ within (names_of s) l
  unfolding set_of
  set_in-within x l e = filter-cong (member x) (λ n. has n l) (names_of s) (λ n i. sym (has-set_of (names_of s) x n i) ∙ ap (has n) e)

  pub within-member : (x : NameSet) (l : Names) → set_in s x ≡ within (names_of s) l → (n : Name) → In n (names_of s) → member x n ≡ has n l
  within-member x l e n i = sym (has-set_of (names_of s) x n i) ∙ ap (has n) e ∙ has-names-filter (λ m. has m l) n i

  has-append : (l m : Names) (n : Name) → has n (l ++ m) ≡ (has n l || has n m)
  has-append l m n =
      same_test (has n (l ++ m)) (has n l || has n m)
      (λ t. ⊎_elim (λ u. or_left (has n l) (has n m) (in-has u)) (λ u. or_right (has n l) (has n m) (in-has u)) (append_cases l (has_in n (l ++ m) t)))
      (λ t. ⊎_elim (λ u. in-has (append_left m (has_in n l u))) (λ u. in-has (append_right l (has_in n m u))) (or_cases (has n l) (has n m) t))

  pub union-append : (a b r : NameSet) → ((n : Name) → member r n ≡ (member a n || member b n)) → (l m : Names)
      → set_in s a ≡ within (names_of s) l → set_in s b ≡ within (names_of s) m → set_in s r ≡ within (names_of s) (l ++ m)
  unfolding set_of
  union-append a b r h l m e d =
      filter-cong (member r) (λ n. has n (l ++ m)) (names_of s)
      (λ n i. h n ∙ ap₂ ◌||◌ (within-member a l e n i) (within-member b m d n i) ∙ sym (has-append l m n))

  -- ---- a step before others, for conditions of some kind
  module _ {C : Type 0} (keeps : Names → C → Name → Bool) (wants : Names → C → Name → Names) where
    pub needs-last : (e : Env) (t : NameSet) → set_in s t ≡ e.type → NeedsOf s keeps wants [] e (record { complete = t; names = t })
    needs-last e t h = record { complete = h; names = set_in-within t e.type h }

    module _ (p : Step ℕ C) (ps : List (Step ℕ C)) (e : Env) where
      -- what the conditions want that the names of h carry, after the step
      abbrev pub wanted_by : Env → Names → Names
      wanted_by f h = gather (λ a. wants (cut_to types (a ∷ []) f.context) p.condition a) h

      pub needs-step : (wanted : NameSet) (later r : Needs) (f : Env) → f ≡ infer types keeps p e → NeedsOf s keeps wants ps f later
          → set_in s wanted ≡ within (names_of s) (wanted_by f (set_in s later.complete)) → StepNeeds s p.axis e.type wanted later r → NeedsOf s keeps wants (p ∷ ps) e r
      needs-step wanted later r f same n w k = record { complete = g; names = names }
        where
          after : Env
          after = infer types keeps p e

          h : set_in s later.complete ≡ complete types keeps wants ps after
          h = n.complete ∙ ap (complete types keeps wants ps) same

          g : set_in s r.complete ≡ complete types keeps wants (p ∷ ps) e
          g = k.complete ∙ ap (λ (x : Names). leading types p.axis x e.type) h

          rest : set_in s later.names ≡ within (names_of s) (need types keeps wants ps after)
          rest = n.names ∙ ap (λ (x : Env). within (names_of s) (need types keeps wants ps x)) same

          whole : (u v : Names) → u ≡ complete types keeps wants (p ∷ ps) e → v ≡ complete types keeps wants ps after
              → (u ++ (between types p.axis u v ++ (wanted_by f v ++ need types keeps wants ps after))) ≡ need types keeps wants (p ∷ ps) e
          whole u v d q =
              ap₂ (λ (x y : Names). x ++ (between types p.axis x y ++ (wanted_by f y ++ need types keeps wants ps after))) d q
              ∙ ap (λ (x : Env). complete types keeps wants (p ∷ ps) e ++ (between types p.axis (complete types keeps wants (p ∷ ps) e) (complete types keeps wants ps after)
              ++ (wanted_by x (complete types keeps wants ps after) ++ need types keeps wants ps after))) same

          names : set_in s r.names ≡ within (names_of s) (need types keeps wants (p ∷ ps) e)
          names =
              k.names (wanted_by f (set_in s later.complete)) (need types keeps wants ps after) w rest
              ∙ ap (within (names_of s)) (whole (set_in s r.complete) (set_in s later.complete) g h)
