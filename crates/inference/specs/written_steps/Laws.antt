-- Laws of written steps: by their parts they are the steps by which they are analysed, for conditions of some kind.
use Rattle.std.specs.Prelude.{Bool, true, false, List, [], ◌∷◌, ◌++◌, map, ◌≡◌, refl, ℕ}
use Rattle.std.proofs.Common.{sym, ap, ap₂, subst, ◌∙◌}
use Rattle.compiled_paths.specs.Steps.{axis_of, written_axis}
use Rattle.compiled_paths.specs.declared.Axis.{Axis as CompiledAxis}
use Rattle.compiled_paths.specs.declared.Axis.TheVariants.{SelfNode, Child, Descendant, DescendantOrSelf, Parent, Ancestor, AncestorOrSelf, Following, FollowingSibling, Preceding, PrecedingSibling}
use Rattle.inference_spec.specs.Types.{Env, env, all_above, cut_to, move, narrow, infer, infer_all}
use Rattle.inference.specs.back_steps.Laws.{set_in-within, empty-set_in, needs-step}
use Rattle.inference.specs.back_steps.Needs.{StepNeeds, NeedsOf}
use Rattle.inference.specs.declared.back_steps.Needs.{Needs}
use Rattle.inference.specs.written_steps.Parts.{passing_axes, last_part, stepped, passed_along, before_last, reached, PassingNeeds, no_step, step-and-rest, WrittenNeeds}
use Rattle.names.specs.Sets.{member, set_in}
use Rattle.names.specs.declared.NameSet.{NameSet}
use Rattle.path_spec.specs.Paths.{Axis, child, descendant_or_self, parent, ancestor_or_self, WrittenAxis, along, following, following_sibling, preceding, preceding_sibling, NodeTest, any_node, Step, passing, expand_step}
use Rattle.path_spec.specs.Selection.{passes}
use Rattle.schema_spec.specs.Names.{Name, Names, has, within, names_of}
use Rattle.schema_spec.specs.Schemas.{Schema}
use Rattle.schema_spec.specs.Types.{Types, types_of}
use Rattle.text_laws.specs.Lists.{filter-cong, filter-filter}
use Rattle.text_spec.specs.Lists.{filter_by, gather}

-- ---- axes along which a step is analysed by itself
pub written-along : (x : CompiledAxis) → (x ≡ Following → ⊥) → (x ≡ FollowingSibling → ⊥) → (x ≡ Preceding → ⊥) → (x ≡ PrecedingSibling → ⊥) → written_axis x ≡ along (axis_of x)
written-along Following f s p q = absurd (f refl)
written-along FollowingSibling f s p q = absurd (s refl)
written-along Preceding f s p q = absurd (p refl)
written-along PrecedingSibling f s p q = absurd (q refl)
written-along SelfNode f s p q = refl
written-along Child f s p q = refl
written-along Descendant f s p q = refl
written-along DescendantOrSelf f s p q = refl
written-along Parent f s p q = refl
written-along Ancestor f s p q = refl
written-along AncestorOrSelf f s p q = refl

filter-all : (f : Name → Bool) → ((a : Name) → f a ≡ true) → (xs : Names) → filter_by f xs ≡ xs
filter-all f h xs = filter-cong f (λ a. true) xs (λ a i. h a) ∙ whole xs
  where
    whole : (ys : Names) → filter_by (λ a. true) ys ≡ ys
    whole [] = refl
    whole (y ∷ ys) = ap (λ (l : Names). y ∷ l) (whole ys)

gather_none : (f : Name → Names) → ((a : Name) → f a ≡ []) → (xs : Names) → gather f xs ≡ []
gather_none f h [] = refl
gather_none f h (x ∷ xs) = ap₂ ◌++◌ (h x) (gather_none f h xs)

module _ (s : Schema) where
  abbrev types : Types
  types = types_of s

  -- a filter that keeps every name, and the cut after it, change nothing after another
  narrow-all : (f g : Name → Bool) (e : Env) → ((a : Name) → g a ≡ true) → narrow types g (narrow types f e) ≡ narrow types f e
  narrow-all f g e h =
      let all = filter-all g h (filter_by f e.type) in
      ap₂ env all (ap (λ (t : Names). cut_to types t (cut_to types (filter_by f e.type) e.context)) all ∙ twice (filter_by f e.type) e.context)
    where
      twice : (t k : Names) → cut_to types t (cut_to types t k) ≡ cut_to types t k
      twice t k =
          sym (filter-filter (λ n. has n (t ++ all_above types t)) (λ n. has n (t ++ all_above types t)) (λ n. has n (t ++ all_above types t)) k (λ n i h. (h, h)) (λ n i h g. g))

  -- ---- by the axis
  pub reached-by : (a b : WrittenAxis) (w : NodeTest ℕ) (e r : Env) → b ≡ a → r ≡ reached types a w e → r ≡ reached types b w e
  reached-by a b w e r d h = h ∙ ap (λ (x : WrittenAxis). reached types x w e) (sym d)

  pub needs-by : (a b : WrittenAxis) (e : Env) (wanted : NameSet) (later r : Needs) → b ≡ a → WrittenNeeds s a e wanted later r → WrittenNeeds s b e wanted later r
  needs-by a b e wanted later r d h = subst (λ (x : WrittenAxis). WrittenNeeds s x e wanted later r) (sym d) h

  -- ---- step by step
  pub siblings-reached : (w : NodeTest ℕ) (e parents r : Env) → parents ≡ stepped types parent any_node e → r ≡ stepped types child w parents → r ≡ reached types following_sibling w e
  siblings-reached w e parents r d h = h ∙ ap (stepped types child w) d

  pub following-reached : (w : NodeTest ℕ) (e up siblings r : Env) → up ≡ stepped types ancestor_or_self any_node e → siblings ≡ reached types following_sibling any_node up
      → r ≡ stepped types descendant_or_self w siblings → r ≡ reached types following w e
  following-reached w e up siblings r d f h = h ∙ ap (stepped types descendant_or_self w) (f ∙ ap (reached types following_sibling any_node) d)

  pub along-needs : (x : Axis) (e : Env) (wanted : NameSet) (later r : Needs) → StepNeeds s x e.type wanted later r → WrittenNeeds s (along x) e wanted later r
  along-needs x e wanted later r k = record { at_last = r; last = k; passing = no_step e r }

  module _ (e : Env) (wanted none : NameSet) (later : Needs) (empty : (n : Name) → member none n ≡ false) where
    pub sibling-needs : (parents : Env) (last r : Needs) → parents ≡ stepped types parent any_node e → StepNeeds s child parents.type wanted later last
        → StepNeeds s parent e.type none last r → WrittenNeeds s following_sibling e wanted later r
    sibling-needs parents last r d m k =
        record {
          at_last = last;
          last = subst (λ (x : Env). StepNeeds s child x.type wanted later last) d m;
          passing = step-and-rest parent [] e last last r none empty k (no_step _ last);
        }

    pub following-needs : (up parents siblings : Env) (last third second r : Needs) → up ≡ stepped types ancestor_or_self any_node e → parents ≡ stepped types parent any_node up
        → siblings ≡ stepped types child any_node parents → StepNeeds s descendant_or_self siblings.type wanted later last → StepNeeds s child parents.type none last third
        → StepNeeds s parent up.type none third second → StepNeeds s ancestor_or_self e.type none second r → WrittenNeeds s following e wanted later r
    following-needs up parents siblings last third second r d f g m k3 k2 k =
        let p = f ∙ ap (stepped types parent any_node) d in
        let q = g ∙ ap (stepped types child any_node) p in
        record {
          at_last = last;
          last = subst (λ (x : Env). StepNeeds s descendant_or_self x.type wanted later last) q m;
          passing =
              step-and-rest ancestor_or_self (parent ∷ child ∷ []) e last second r none empty k
              (step-and-rest parent (child ∷ []) _ last third second none empty (subst (λ (x : Env). StepNeeds s parent x.type none third second) d k2)
              (step-and-rest child [] _ last last third none empty (subst (λ (x : Env). StepNeeds s child x.type none last third) p k3) (no_step _ last)));
        }

  -- ---- a written step before others, for conditions of which one keeps every name
  module _ {C : Type 0} (no_condition : C) (keeps : Names → C → Name → Bool) (kept : (k : Names) (a : Name) → keeps k no_condition a ≡ true) where
    pub unconditional-infer : (i : ℕ) (x : Axis) (w : NodeTest ℕ) (e : Env)
        → infer types keeps (record { written = i; axis = x; test = w; condition = no_condition }) e ≡ stepped types x w e
    unconditional-infer i x w e =
        narrow-all (passes w) (λ a. keeps (cut_to types (a ∷ []) (stepped types x w e).context) no_condition a) (move types x w e) (λ a. kept _ a)

    parts : (i : ℕ) (a : WrittenAxis) (w : NodeTest ℕ) (q : C) (ps : List (Step ℕ C))
        → expand_step no_condition i a w q ++ ps ≡ map (passing no_condition i) (passing_axes a) ++ (last_part i a w q ∷ ps)
    parts i (along x) w q ps = refl
    parts i following w q ps = refl
    parts i following_sibling w q ps = refl
    parts i preceding w q ps = refl
    parts i preceding_sibling w q ps = refl

    passing-infer : (i : ℕ) (xs : List Axis) (ps : List (Step ℕ C)) (e : Env) → infer_all types keeps (map (passing no_condition i) xs ++ ps) e ≡ infer_all types keeps ps (passed_along types xs e)
    passing-infer i [] ps e = refl
    passing-infer i (x ∷ xs) ps e =
        ap (infer_all types keeps (map (passing no_condition i) xs ++ ps)) (unconditional-infer i x any_node e) ∙ passing-infer i xs ps (stepped types x any_node e)

    pub written-infer : (i : ℕ) (a : WrittenAxis) (w : NodeTest ℕ) (q : C) (ps : List (Step ℕ C)) (e : Env)
        → infer_all types keeps (expand_step no_condition i a w q ++ ps) e ≡ infer_all types keeps ps (infer types keeps (last_part i a w q) (before_last types a e))
    written-infer i a w q ps e = ap (λ (l : List (Step ℕ C)). infer_all types keeps l e) (parts i a w q ps) ∙ passing-infer i (passing_axes a) (last_part i a w q ∷ ps) e

    module _ (wants : Names → C → Name → Names) (nothing : (k : Names) (a : Name) → wants k no_condition a ≡ []) where
      pub nothing-wanted : (none : NameSet) (k h : Names) → ((n : Name) → member none n ≡ false)
          → set_in s none ≡ within (names_of s) (gather (λ a. wants (cut_to types (a ∷ []) k) no_condition a) h)
      nothing-wanted none k h empty =
          set_in-within s none _ (empty-set_in s none empty ∙ sym (gather_none (λ a. wants (cut_to types (a ∷ []) k) no_condition a) (λ a. nothing _ a) h))

      passing-needs : (i : ℕ) (xs : List Axis) (ps : List (Step ℕ C)) (e : Env) (later r : Needs) → NeedsOf s keeps wants ps (passed_along types xs e) later
          → PassingNeeds s xs e later r → NeedsOf s keeps wants (map (passing no_condition i) xs ++ ps) e r
      passing-needs i [] ps e later r m (no_step _ _) = m
      passing-needs i (x ∷ xs) ps e later r m (step-and-rest _ _ _ _ next _ none empty k rest) =
          let f = stepped types x any_node e in
          needs-step s keeps wants (passing no_condition i x) (map (passing no_condition i) xs ++ ps) e none next r f (sym (unconditional-infer i x any_node e))
          (passing-needs i xs ps f later next m rest) (nothing-wanted none f.context (set_in s next.complete) empty) k

      pub written-needs : (i : ℕ) (a : WrittenAxis) (w : NodeTest ℕ) (q : C) (ps : List (Step ℕ C)) (e f : Env) (wanted : NameSet) (later r : Needs)
          → f ≡ infer types keeps (last_part i a w q) (before_last types a e) → NeedsOf s keeps wants ps f later
          → set_in s wanted ≡ within (names_of s) (gather (λ b. wants (cut_to types (b ∷ []) f.context) q b) (set_in s later.complete))
          → WrittenNeeds s a e wanted later r → NeedsOf s keeps wants (expand_step no_condition i a w q ++ ps) e r
      written-needs i a w q ps e f wanted later r d m v k =
          subst (λ (l : List (Step ℕ C)). NeedsOf s keeps wants l e r) (sym (parts i a w q ps))
          (passing-needs i (passing_axes a) (last_part i a w q ∷ ps) e k.at_last r
          (needs-step s keeps wants (last_part i a w q) ps (before_last types a e) wanted later k.at_last f d m v k.last) k.passing)
