-- Images cut to a set, the root among what it reaches, and the set of the root alone.
use Rattle.std.specs.Prelude.{Bool, true, false, ◌&&◌, ◌||◌, List, [], ◌∷◌, ◌≡◌, refl, ℕ, ◌<◌, T, ltb, length, get_or}
use Rattle.std.proofs.Math.Bool.{and-true}
use Rattle.std.proofs.Common.{sym, ap, ap₂, subst, ◌∙◌, arith, lt-ltb, ltb-true, ltb-false}
use Rattle.names.specs.Sets.{member, nothing, set_in}
use Rattle.names.specs.closures.Relations.{relates, NonePast}
use Rattle.names.specs.closures.Schemas.{holds-none-past}
use Rattle.names.specs.codes.Laws.{single-list}
use Rattle.names.specs.declared.NameSet.{NameSet}
use Rattle.names.specs.declared.relations.Relations.{Relations}
use Rattle.names.specs.relations.Relations.{RelationsOf}
use Rattle.needed_names.specs.reachable_names.Reached.{HeldInside}
use Rattle.schema_laws.specs.Names.{same-equal, same-name, element-in}
use Rattle.schema_spec.specs.Names.{Name, element, same_name}
use Rattle.schema_spec.specs.Schemas.{Schema}
use Rattle.text_laws.specs.Loops.{Passed}
use Rattle.text_laws.specs.Tests.{same_test}

-- the image of element a, cut to m
abbrev pub ImageInside : List NameSet → NameSet → ℕ → NameSet → Type 0
ImageInside images m a x = (b : Name) → member x b ≡ (relates images a b && (member m (element a) && member m b))

module _ (images : List NameSet) (m : NameSet) where
  pub image-is-inside : (i : ℕ) (now : List NameSet) (x : NameSet) → Passed (ImageInside images m) nothing images i now
      → ((b : Name) → member x b ≡ (member (get_or now i nothing) b && (member m (element i) && member m b))) → ImageInside images m i x
  image-is-inside i now x p new b = new b ∙ ap (λ (s : NameSet). member s b && (member m (element i) && member m b)) (p.kept i (omega arith))

  pub images-inside : (i : ℕ) (now : List NameSet) → NonePast i images → Passed (ImageInside images m) nothing images i now
      → (a : ℕ) (b : Name) → relates now a b ≡ (relates images a b && (member m (element a) && member m b))
  images-inside i now past p a b = pick (ltb a i) refl
    where
      pick : (c : Bool) → ltb a i ≡ c → relates now a b ≡ (relates images a b && (member m (element a) && member m b))
      pick true e = p.done a (ltb-true a i e) b
      pick false e =
          let l = ltb-false a i e in
          let none : relates images a b ≡ false = past a b l in
          ap (λ (s : NameSet). member s b) (p.kept a l) ∙ none ∙ sym (ap (λ (c : Bool). c && (member m (element a) && member m b)) none)

module _ (s : Schema) (t : Relations) (r : List NameSet) (m : NameSet) (c : RelationsOf s t)
    (h : NonePast t.count t.«holds» → (a : ℕ) (b : Name) → relates r a b ≡ (relates t.«holds» a b && (member m (element a) && member m b))) where
  past : NonePast t.count t.«holds»
  past = holds-none-past s t.count c.counted t.«holds» c.holding

  pub inside-holds : HeldInside s m r
  inside-holds a b = h past a b ∙ ap (λ (x : Bool). x && (member m (element a) && member m b)) (c.holding a b)

  pub inside-none-past : NonePast t.count r
  inside-none-past a b l = h past a b ∙ ap (λ (x : Bool). x && (member m (element a) && member m b)) (past a b l)

same_name-sym : (a b : Name) → same_name a b ≡ same_name b a
same_name-sym a b =
    same_test (same_name a b) (same_name b a) (λ t. subst (λ (x : Name). T (same_name x a)) (same-equal a b t) (same-name a))
    (λ t. subst (λ (x : Name). T (same_name x b)) (same-equal b a t) (same-name b))

or-sym : (x y : Bool) → (x || y) ≡ (y || x)
or-sym true true = refl
or-sym true false = refl
or-sym false true = refl
or-sym false false = refl

pub root-or-reached : (m top reached out : NameSet) → ((n : Name) → member reached n ≡ (member top n || (same_name n (element 0) && ltb 0 64))) → ((n : Name) → member out n ≡ (member m n && member reached n))
    → (n : Name) → member out n ≡ (member m n && (same_name (element 0) n || member top n))
root-or-reached m top reached out h g n =
    g n ∙ ap (λ (b : Bool). member m n && b) (h n ∙ ap (λ (b : Bool). member top n || b) (ap (λ (b : Bool). same_name n (element 0) && b) (lt-ltb 0 64 (omega arith)) ∙ and-true (same_name n (element 0)) ∙ same_name-sym n (element 0))
    ∙ or-sym (member top n) (same_name (element 0) n))

pub root-list : (s : Schema) (none root : NameSet) → 0 < length s → ((n : Name) → member none n ≡ false) → ((n : Name) → member root n ≡ (member none n || (same_name n (element 0) && ltb 0 64)))
    → set_in s root ≡ element 0 ∷ []
root-list s none root full bare h =
    single-list s (element 0) root (element-in s 0 full) (λ n. h n ∙ ap₂ (λ (x y : Bool). x || (same_name n (element 0) && y)) (bare n) (lt-ltb 0 64 (omega arith)) ∙ and-true (same_name n (element 0)))
