-- Sets as words and sets as lists: what each operation on words is on the names of a schema.
use Rattle.std.specs.Prelude.{Bool, false, ◌&&◌, ◌||◌, ◌≡◌, refl, ℕ, ◌≤◌, eqb, ltb, length}
use Rattle.std.proofs.Math.Bool.{and-true, and-false}
use mathlib.Core.List.Memᴰ.{append_cases}
use mathlib.Core.List.Memᴰ.{append_left}
use mathlib.Core.List.Memᴰ.{append_right}
use mathlib.Core.List.{◌++◌, Memᴰ as In}
use Rattle.std.proofs.Math.Logic.{⊎_elim}
use Rattle.std.proofs.Common.{sym, ap, ap₂, ◌∙◌, arith, lt→ltb, eqb→eq}
use Rattle.std.proofs.Math.Path.{subst}
use Rattle.std.proofs.Math.Dec.{T, eqb_refl}
use Rattle.inference_spec.specs.Types.{Env, env, held_by, holding, all_below, all_above, union_of, cut_to, move, narrow}
use Rattle.names.specs.SetLaws.{set_of-in, set_of-union, set_of-common, schema-every, every_element, nothing-in}
use Rattle.names.specs.Sets.{member, set_of, every_name, set_in}
use Rattle.names.specs.closures.Relations.{related_from, related_to}
use Rattle.names.specs.closures.Schemas.{holds-relating, below-relating, related_from-filter, related_to-filter}
use Rattle.names.specs.declared.NameSet.{NameSet}
use Rattle.names.specs.declared.relations.Relations.{Relations}
use Rattle.names.specs.relations.Relations.{RelationsOf}
use Rattle.path_spec.specs.Paths.{child, descendant, descendant_or_self, parent, ancestor, ancestor_or_self, NodeTest, named, any_node, any_text}
use Rattle.path_spec.specs.Selection.{passes}
use Rattle.schema_laws.specs.Names.{has_in, in-has}
use Rattle.schema_spec.specs.Names.{Name, Names, element, text, same_name, has, within, names_of}
use Rattle.schema_spec.specs.Schemas.{Schema}
use Rattle.schema_spec.specs.Types.{Types, holds, types_of, is_below}
use Rattle.text_laws.specs.Lists.{in-filter, filter-in, filter-cong, filter-filter}
use Rattle.text_laws.specs.Tests.{or_left, or_right, or_cases, and_intro, and_cases, same_test}
use Rattle.text_spec.specs.Limits.{max_declarations}
use Rattle.text_spec.specs.Lists.{filter_by}

-- ---- tests
-- what a set has that passes a test
abbrev pub Tested : NodeTest ℕ → NameSet → NameSet → Type 0
Tested w x r = (n : Name) → In n every_name → member r n ≡ (member x n && passes w n)

pub one-tested : (e : ℕ) (x none one r : NameSet) → ((n : Name) → member none n ≡ false)
    → ((n : Name) → member one n ≡ (member none n || (same_name n (element e) && ltb e 64))) → ((n : Name) → member r n ≡ (member x n && member one n)) → Tested (named e) x r
one-tested e x none one r bare single both n i =
    both n ∙ ap (λ (b : Bool). member x n && b) (single n ∙ ap (λ (b : Bool). b || (same_name n (element e) && ltb e 64)) (bare n) ∙ same n i)
  where
    same : (n : Name) → In n every_name → (same_name n (element e) && ltb e 64) ≡ passes (named e) n
    same (element f) i =
        let l = every_element f i in
        same_test (eqb f e && ltb e 64) (eqb e f)
        (λ t.
        let c : f ≡ e = eqb→eq f e (and_cases (eqb f e) (ltb e 64) t).0 in
        subst (λ (k : ℕ). T (eqb e k)) (sym c) (eqb_refl e))
        (λ t.
        let c : e ≡ f = eqb→eq e f t in
        and_intro (eqb f e) (ltb e 64) (subst (λ (k : ℕ). T (eqb f k)) (sym c) (eqb_refl f)) (lt→ltb e 64 (omega arith)))
    same (text f) i = refl

pub all_tested : (x : NameSet) → Tested any_node x x
all_tested x n i = sym (and-true (member x n))

pub texts-tested : (x : NameSet) → Tested any_text x (record { elements = 0; texts = x.texts })
texts-tested x (element e) i = nothing-in (element e) ∙ sym (and-false (member x (element e)))
texts-tested x (text e) i = sym (and-true (member x (text e)))

pub tested-along : (v w : NodeTest ℕ) (x r : NameSet) → w ≡ v → Tested v x r → Tested w x r
tested-along v w x r e t = rw e t

-- ---- sets, on the names of a schema
module _ (s : Schema) where
  abbrev types : Types
  types = types_of s

  pub union-union_of : (a b r : NameSet) → ((n : Name) → member r n ≡ (member a n || member b n)) → set_in s r ≡ union_of types (set_in s a) (set_in s b)
  unfolding types_of
  union-union_of a b r h = set_of-union (names_of s) a b r h

  pub common-within : (a b r : NameSet) → ((n : Name) → member r n ≡ (member a n && member b n)) → set_in s r ≡ within (set_in s a) (set_in s b)
  common-within a b r h = set_of-common (names_of s) a b r h

  module _ (r : Relations) (c : RelationsOf s r) where
    few : r.count ≤ max_declarations
    few = omega (arith, c.small, c.counted)

    pub related-held_by : (x z : NameSet) → (r.count ≤ max_declarations → (b : Name) → member z b ≡ related_from r.count r.«holds» x b) → set_in s z ≡ held_by types (set_in s x)
    unfolding types_of
    related-held_by x z h = related_from-filter s c.small r.count c.counted (holds s) (holds-relating s c.closed) r.«holds» c.holding x z (h few)

    pub related-holding : (x z : NameSet) → (r.count ≤ max_declarations → (n : Name) → member z n ≡ related_to r.count r.«holds» x n) → set_in s z ≡ holding types (set_in s x)
    unfolding types_of
    related-holding x z h = related_to-filter s c.small r.count c.counted (holds s) (holds-relating s c.closed) r.«holds» c.holding x z (h few)

    pub related-all_below : (x z : NameSet) → (r.count ≤ max_declarations → (b : Name) → member z b ≡ related_from r.count r.below x b) → set_in s z ≡ all_below types (set_in s x)
    unfolding types_of
    related-all_below x z h = related_from-filter s c.small r.count c.counted (is_below (types_of s)) (below-relating s c.closed) r.below c.below x z (h few)

    pub related-all_above : (x z : NameSet) → (r.count ≤ max_declarations → (n : Name) → member z n ≡ related_to r.count r.below x n) → set_in s z ≡ all_above types (set_in s x)
    unfolding types_of
    related-all_above x z h = related_to-filter s c.small r.count c.counted (is_below (types_of s)) (below-relating s c.closed) r.below c.below x z (h few)

  pub tested-filter : length s ≤ max_declarations → (w : NodeTest ℕ) (x r : NameSet) → Tested w x r → set_in s r ≡ filter_by (passes w) (set_in s x)
  unfolding set_of
  tested-filter small w x r h =
      filter-filter (member r) (passes w) (member x) (names_of s) (λ n i t. and_cases (member x n) (passes w n) (subst T (h n (schema-every s small n i)) t))
      (λ n i t u. subst T (sym (h n (schema-every s small n i))) (and_intro (member x n) (passes w n) t u))

  -- a union is as good as both lists
  within-union : (k : NameSet) (a b : Names) → within (set_in s k) (union_of types a b) ≡ within (set_in s k) (a ++ b)
  unfolding types_of
  within-union k a b =
      filter-cong (λ n. has n (union_of types a b)) (λ n. has n (a ++ b)) (set_in s k)
      (λ n i. same_test (has n (union_of types a b)) (has n (a ++ b))
      (λ t. ⊎_elim (λ u. in-has (append_left b (has_in n a u))) (λ u. in-has (append_right a (has_in n b u)))
      (or_cases (has n a) (has n b) (filter-in (λ m. has m a || has m b) (names_of s) (has_in n (union_of types a b) t)).1))
      (λ t. in-has (in-filter (λ m. has m a || has m b) (set_of-in (names_of s) k i).0
      (⊎_elim (λ u. or_left (has n a) (has n b) (in-has u)) (λ u. or_right (has n a) (has n b) (in-has u)) (append_cases a (has_in n (a ++ b) t))))))

  pub near-cut_to : (t k r : NameSet) (up near : Names) → up ≡ all_above types (set_in s t) → near ≡ union_of types (set_in s t) up → set_in s r ≡ within (set_in s k) near
      → set_in s r ≡ cut_to types (set_in s t) (set_in s k)
  near-cut_to t k r up near e d f = f ∙ ap (within (set_in s k)) (d ∙ ap (union_of types (set_in s t)) e) ∙ within-union k (set_in s t) (all_above types (set_in s t))

  -- ---- axes, over lists
  module _ (w : NodeTest ℕ) (ty ctx : Names) where
    pub move-child : (t p k : Names) → t ≡ held_by types ty → p ≡ filter_by (passes w) t → k ≡ union_of types ctx p → env t k ≡ move types child w (env ty ctx)
    move-child t p k e d f = ap₂ env e (f ∙ ap (union_of types ctx) (d ∙ ap (filter_by (passes w)) e))

    pub move-descendant : (t k : Names) → t ≡ all_below types ty → k ≡ union_of types ctx t → env t k ≡ move types descendant w (env ty ctx)
    move-descendant t k e f = ap₂ env e (f ∙ ap (union_of types ctx) e)

    pub move-descendant_or_self : (u t k : Names) → u ≡ all_below types ty → t ≡ union_of types ty u → k ≡ union_of types ctx t → env t k ≡ move types descendant_or_self w (env ty ctx)
    move-descendant_or_self u t k e d f =
        let g = d ∙ ap (union_of types ty) e in
        ap₂ env g (f ∙ ap (union_of types ctx) g)

    pub move-parent : (u t k : Names) → u ≡ holding types ty → t ≡ within u ctx → k ≡ cut_to types t ctx → env t k ≡ move types parent w (env ty ctx)
    move-parent u t k e d f =
        let g = d ∙ ap (λ (x : Names). within x ctx) e in
        ap₂ env g (f ∙ ap (λ (x : Names). cut_to types x ctx) g)

    pub move-ancestor : (u t k : Names) → u ≡ all_above types ty → t ≡ within u ctx → k ≡ cut_to types t ctx → env t k ≡ move types ancestor w (env ty ctx)
    move-ancestor u t k e d f =
        let g = d ∙ ap (λ (x : Names). within x ctx) e in
        ap₂ env g (f ∙ ap (λ (x : Names). cut_to types x ctx) g)

    pub move-ancestor_or_self : (u v t k : Names) → u ≡ all_above types ty → v ≡ within u ctx → t ≡ union_of types ty v → k ≡ cut_to types t ctx → env t k ≡ move types ancestor_or_self w (env ty ctx)
    move-ancestor_or_self u v t k e d h f =
        let g = h ∙ ap (union_of types ty) (d ∙ ap (λ (x : Names). within x ctx) e) in
        ap₂ env g (f ∙ ap (λ (x : Names). cut_to types x ctx) g)

  -- ---- a filter, after which the context is cut
  pub narrow-parts : (f : Name → Bool) (e : Env) (t k : Names) → t ≡ filter_by f e.type → k ≡ cut_to types t e.context → env t k ≡ narrow types f e
  narrow-parts f e t k d g = ap₂ env d (g ∙ ap (λ (x : Names). cut_to types x e.context) d)
