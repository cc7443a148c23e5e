-- For a schema's relations, what the code computes is what the definitions say: below, and the sets that a set is related to.
use Rattle.std.specs.Prelude.{Bool, ◌&&◌, ◌↔◌, ◌≡◌, refl, ℕ, ◌≤◌, ltb, length, get_or}
use mathlib.Core.List.{List, Memᴰ as In}
use Rattle.std.proofs.Common.{sym, ◌∙◌, arith, lt→ltb}
use Rattle.std.proofs.Math.Path.{subst}
use Rattle.std.proofs.Math.Dec.{T}
use Rattle.names.specs.SetLaws.{in-set_of, set_of-in, overlap-some, element-overlap, text-overlap}
use Rattle.names.specs.Sets.{member, set_of, overlap, nothing}
use Rattle.names.specs.closures.Relations.{relates, Reachable, one, more, related_from, related_to, NonePast}
use Rattle.names.specs.declared.NameSet.{NameSet}
use Rattle.schema_laws.specs.Closure.{Closed, holds-model, text-holds-none, holder_in, held_in, is_below-below, below-is_below, below_names}
use Rattle.schema_laws.specs.Names.{in-element, in-text}
use Rattle.schema_spec.specs.Names.{Name, element, text, names_of}
use Rattle.schema_spec.specs.Schemas.{Schema}
use Rattle.schema_spec.specs.Types.{holds, Below, held, further, types_of, is_below}
use Rattle.text_laws.specs.Lists.{any-in, in-any, filter-cong}
use Rattle.text_laws.specs.Searches.{any_below_lem, below-any}
use Rattle.text_laws.specs.Tests.{and_intro, and_cases, false_of, same_test}
use Rattle.text_spec.specs.Limits.{max_declarations}
use Rattle.text_spec.specs.Lists.{any_of, filter_by}

-- the images of the elements under a test between names
abbrev pub RelationOf : (Name → Name → Bool) → List NameSet → Type 0
RelationOf f images = (a : ℕ) (b : Name) → relates images a b ≡ f (element a) b

-- nothing is below a text name: it holds nothing
text-leaf : {s : Schema} {x b : Name} → Below s x b → (a : ℕ) → x ≡ text a → ⊥
text-leaf {s} (held {b = b} t) a e = text-holds-none s a b (subst (λ (y : Name). T (holds s y b)) e t)
text-leaf {s} (further {b = b} t r) a e = text-holds-none s a b (subst (λ (y : Name). T (holds s y b)) e t)

module _ (s : Schema) (closed : Closed s) (images : List NameSet) (count : ℕ) (all : length s ≤ count) (relation : RelationOf (holds s) images) where
  reachable-below : {a : ℕ} {b : Name} → Reachable images count a b → Below s (element a) b
  reachable-below (one {a = a} {b = b} t) = held (subst T (relation a b) t)
  reachable-below (more {a = a} {m = m} t l r) = further (subst T (relation a (element m)) t) (reachable-below r)

  -- a way goes through elements alone
  onward : (a : ℕ) (y : Name) {c : Name} → T (holds s (element a) y) → Below s y c → ((m : ℕ) → y ≡ element m → Reachable images count m c) → Reachable images count a c
  onward a (element m) t r h =
      let d = closed a m (holds-model s a m t) in
      more (subst T (sym (relation a (element m))) t) (omega arith) (h m refl)
  onward a (text m) t r h = absurd (text-leaf r m refl)

  below-reachable : {x b : Name} → Below s x b → (a : ℕ) → x ≡ element a → Reachable images count a b
  below-reachable (held {b = b} t) a e = one (subst T (sym (relation a b)) (subst (λ (y : Name). T (holds s y b)) e t))
  below-reachable (further {b = y} t r) a e = onward a y (subst (λ (z : Name). T (holds s z y)) e t) r (below-reachable r)

  -- what `below` makes of what each element holds is what lies below each
  pub reachability-is_below : (r : List NameSet) → ((a : ℕ) (b : Name) → T (relates r a b) ↔ Reachable images count a b) → RelationOf (is_below (types_of s)) r
  reachability-is_below r h a b =
      same_test (relates r a b) (is_below (types_of s) (element a) b) (λ t. below-is_below s closed (reachable-below ((h a b).0 t)))
      (λ t. (h a b).1 (below-reachable (is_below-below s (element a) b t) a refl))

-- no element past those of the schema holds a name
pub holds-none-past : (s : Schema) (count : ℕ) → count ≡ length s → (images : List NameSet) → RelationOf (holds s) images → NonePast count images
holds-none-past s count e images relation a b l =
    relation a b ∙ false_of (holds s (element a) b) (λ t.
    let i = in-element s a (holder_in s (element a) b t) in
    omega arith)

-- A relation between the names of a schema, in which text names are related to nothing.
pub record Relating (s : Schema) (f : Name → Name → Bool) : Type 0 where
  pub known : (a b : Name) → T (f a b) → In a (names_of s) × In b (names_of s)
  pub leaf : (a : ℕ) (b : Name) → T (f (text a) b) → ⊥

pub holds-relating : (s : Schema) → Closed s → Relating s (holds s)
holds-relating s c = record { known = λ a b t. (holder_in s a b t, held_in s c a b t); leaf = text-holds-none s }

pub below-relating : (s : Schema) → Closed s → Relating s (is_below (types_of s))
below-relating s c =
    record { known = λ a b t. below_names s c (is_below-below s a b t); leaf = λ a b t. text-leaf (is_below-below s (text a) b t) a refl }

module _ (s : Schema) (small : length s ≤ max_declarations) (count : ℕ) (counted : count ≡ length s) (f : Name → Name → Bool) (relating : Relating s f) (images : List NameSet)
    (relation : RelationOf f images) (x r : NameSet) where
  -- all that a set holds, or all below it
  pub related_from-filter : ((b : Name) → member r b ≡ related_from count images x b) → set_of (names_of s) r ≡ filter_by (λ n. any_of (λ a. f a n) (set_of (names_of s) x)) (names_of s)
  unfolding set_of
  related_from-filter h =
      filter-cong (member r) (λ n. any_of (λ a. f a n) (set_of (names_of s) x)) (names_of s)
      (λ n i. h n ∙ same_test (related_from count images x n) (any_of (λ a. f a n) (set_of (names_of s) x)) (found n) (λ t. back n (in-any (λ a. f a n) (set_of (names_of s) x) t)))
    where
      found : (n : Name) → T (related_from count images x n) → T (any_of (λ a. f a n) (set_of (names_of s) x))
      found n t =
          let w = below-any count (λ a. member x (element a) && relates images a n) t in
          let c = and_cases (member x (element w.0)) (relates images w.0 n) w.2 in
          let g = subst T (relation w.0 n) c.1 in
          any-in (λ a. f a n) (in-set_of x (relating.known (element w.0) n g).0 c.0) g

      back : (n : Name) → (y : Name) × In y (set_of (names_of s) x) × T (f y n) → T (related_from count images x n)
      back n (element e, i, g) =
          let m = set_of-in (names_of s) x i in
          let l = in-element s e m.0 in
          any_below_lem count (λ a. member x (element a) && relates images a n) e (omega arith)
          (and_intro (member x (element e)) (relates images e n) m.1 (subst T (sym (relation e n)) g))
      back n (text e, i, g) = absurd (relating.leaf e n g)

  -- all that hold a name of a set, or all above it
  pub related_to-filter : ((n : Name) → member r n ≡ related_to count images x n) → set_of (names_of s) r ≡ filter_by (λ n. any_of (λ b. f n b) (set_of (names_of s) x)) (names_of s)
  unfolding set_of
  related_to-filter h = filter-cong (member r) (λ n. any_of (λ b. f n b) (set_of (names_of s) x)) (names_of s) (λ n i. h n ∙ same n)
    where
      met : (a : ℕ) → (b : Name) × In b (set_of (names_of s) x) × T (f (element a) b) → T (overlap (get_or images a nothing) x)
      met a (element e, i, g) =
          let m = set_of-in (names_of s) x i in
          let l = in-element s e m.0 in
          element-overlap (get_or images a nothing) x e (omega arith) (subst T (sym (relation a (element e))) g) m.1
      met a (text e, i, g) =
          let m = set_of-in (names_of s) x i in
          let l = (in-text s e m.0).0 in
          text-overlap (get_or images a nothing) x e (omega arith) (subst T (sym (relation a (text e))) g) m.1

      found : (a : ℕ) → T (overlap (get_or images a nothing) x) → T (any_of (λ b. f (element a) b) (set_of (names_of s) x))
      found a t =
          let w = overlap-some (get_or images a nothing) x t in
          let g = subst T (relation a w.0) w.1 in
          any-in (λ b. f (element a) b) (in-set_of x (relating.known (element a) w.0 g).1 w.2) g

      same : (n : Name) → related_to count images x n ≡ any_of (λ b. f n b) (set_of (names_of s) x)
      same (element a) =
          same_test (ltb a count && overlap (get_or images a nothing) x) (any_of (λ b. f (element a) b) (set_of (names_of s) x))
          (λ t. found a (and_cases (ltb a count) (overlap (get_or images a nothing) x) t).1)
          (λ t.
          let w = in-any (λ b. f (element a) b) (set_of (names_of s) x) t in
          let l = in-element s a (relating.known (element a) w.0 w.2).0 in
          and_intro (ltb a count) (overlap (get_or images a nothing) x) (lt→ltb a count (omega arith)) (met a w))
      same (text a) =
          sym (false_of (any_of (λ b. f (text a) b) (set_of (names_of s) x)) (λ t.
          let w = in-any (λ b. f (text a) b) (set_of (names_of s) x) t in
          relating.leaf a w.0 w.2))
