-- Warshall's rounds over elements: each round admits one more element on the way.
use Rattle.std.specs.Prelude.{Bool, true, false, ◌&&◌, ◌||◌, List, ◌⊎◌, ◌↔◌, ◌≡◌, refl, ℕ, suc, ◌≤◌, ◌<◌, T, ltb, length, get_or}
use Rattle.std.proofs.Common.{inl, inr, ⊎_elim, sym, ap, ap₂, subst, ◌∙◌, eq-or-lt_of_le, lt-suc_self, arith, ltb-true, ltb-false}
use Rattle.std.proofs.Math.ListN.{get_or-eq_default}
use Rattle.names.specs.SetLaws.{nothing-in}
use Rattle.names.specs.Sets.{member, nothing}
use Rattle.names.specs.closures.Relations.{relates, Reachable, one, more, through_element, NonePast}
use Rattle.names.specs.declared.NameSet.{NameSet}
use Rattle.schema_spec.specs.Names.{Name, element}
use Rattle.text_laws.specs.Loops.{Passed}
use Rattle.text_laws.specs.Tests.{or_left, or_right, or_cases, and_intro, and_cases, false_of}

module _ (images : List NameSet) where
  wider : {n a : ℕ} {b : Name} → Reachable images n a b → Reachable images (suc n) a b
  wider (one t) = one t
  wider (more t l r) = more t (omega arith) (wider r)

  joined : {n a m : ℕ} {b : Name} {k : Name} → Reachable images n a k → k ≡ element m → m < n → Reachable images n m b → Reachable images n a b
  joined {a = a} (one t) e l r = more (subst (λ (x : Name). T (relates images a x)) e t) l r
  joined (more t l s) e k r = more t l (joined s e k r)

  -- a way through elements up to k either avoids k, or goes to k and on from there
  abbrev Split : ℕ → ℕ → Name → Type 0
  Split k a b = Reachable images k a b ⊎ (Reachable images k a (element k) × Reachable images k k b)

  past-less : {k m a : ℕ} {b : Name} → T (relates images a (element m)) → m < k → Split k m b → Split k a b
  past-less t l (inl r) = inl (more t l r)
  past-less t l (inr (r, s)) = inr (more t l r, s)

  past_equal : {k m a : ℕ} {b : Name} → T (relates images a (element m)) → m ≡ k → Split k m b → Split k a b
  past_equal {k} {m} {a} {b} t e (inl r) = inr (one (subst (λ (x : ℕ). T (relates images a (element x))) e t), subst (λ (x : ℕ). Reachable images k x b) e r)
  past_equal {k} {m} {a} {b} t e (inr (r, s)) = inr (one (subst (λ (x : ℕ). T (relates images a (element x))) e t), s)

  at_most : {m k : ℕ} → m < suc k → m ≤ k
  at_most l = omega arith

  split : {k a : ℕ} {b : Name} → Reachable images (suc k) a b → Split k a b
  split (one t) = inl (one t)
  split (more t l r) = ⊎_elim (λ e. past_equal t e (split r)) (λ h. past-less t h (split r)) (eq-or-lt_of_le (at_most l))

  unsplit : {k a : ℕ} {b : Name} → Split k a b → Reachable images (suc k) a b
  unsplit (inl r) = wider r
  unsplit {k} (inr (r, s)) = joined (wider r) refl (lt-suc_self k) (wider s)

  -- a relation is that of what is reachable, by way of elements below k
  abbrev pub Reachability : ℕ → List NameSet → Type 0
  Reachability k t = (a : ℕ) (b : Name) → T (relates t a b) ↔ Reachable images k a b

  none_yet : {a : ℕ} {b : Name} → Reachable images 0 a b → T (relates images a b)
  none_yet (one t) = t
  none_yet (more t l r) = absurd (omega arith)

  pub reachability-first : Reachability 0 images
  reachability-first a b = (λ t. one t, none_yet)

  -- one round more
  pub reachability-next : (k : ℕ) (t u : List NameSet) → Reachability k t → ((a : ℕ) (b : Name) → relates u a b ≡ through_element t k a b) → Reachability (suc k) u
  reachability-next k t u h step a b = (
    λ p.
        unsplit (⊎_elim (λ q. inl ((h a b).0 q))
        (λ q.
        let c = and_cases (relates t a (element k)) (relates t k b) q in
        inr ((h a (element k)).0 c.0, (h k b).0 c.1))
        (or_cases (relates t a b) (relates t a (element k) && relates t k b) (subst T (step a b) p))),
    λ r.
        subst T (sym (step a b))
        (⊎_elim (λ q. or_left (relates t a b) (relates t a (element k) && relates t k b) ((h a b).1 q))
        (λ q. or_right (relates t a b) (relates t a (element k) && relates t k b)
        (and_intro (relates t a (element k)) (relates t k b) ((h a (element k)).1 q.0) ((h k b).1 q.1))) (split r)),
  )

  -- an element without an image is related to nothing
  no-image : (m : ℕ) (b : Name) → length images ≤ m → T (relates images m b) → ⊥
  no-image m b l t = subst T (ap (λ (s : NameSet). member s b) (get_or-eq_default images nothing l) ∙ nothing-in b) t

  inside : (m : ℕ) (b : Name) → T (relates images m b) → m < length images
  inside m b t = pick (ltb m (length images)) refl
    where
      pick : (c : Bool) → ltb m (length images) ≡ c → m < length images
      pick true e = ltb-true m (length images) e
      pick false e = absurd (no-image m b (ltb-false m (length images) e) t)

  -- so elements without an image make no way longer
  reachable-more : {n k a : ℕ} {b : Name} → n ≤ k → Reachable images n a b → Reachable images k a b
  reachable-more h (one t) = one t
  reachable-more h (more t l r) = more t (omega arith) (reachable-more h r)

  has-image : {n m : ℕ} {b : Name} → Reachable images n m b → m < length images
  has-image (one {a = m} {b = b} t) = inside m b t
  has-image (more {a = m} {m = j} t l r) = inside m (element j) t

  reachable-fewer : {n k a : ℕ} {b : Name} → length images ≤ k → Reachable images n a b → Reachable images k a b
  reachable-fewer h (one t) = one t
  reachable-fewer h (more t l r) =
      let d = has-image r in
      more t (omega arith) (reachable-fewer h r)

-- a relation with n images needs no round past n
pub rounds-enough : (images : List NameSet) (r count : ℕ) → (r ≡ count) ⊎ ((r ≡ length images) × (length images ≤ count)) → (a : ℕ) (b : Name) → Reachable images r a b ↔ Reachable images count a b
rounds-enough images r count (inl e) a b = (subst (λ (n : ℕ). Reachable images n a b) e, subst (λ (n : ℕ). Reachable images n a b) (sym e))
rounds-enough images r count (inr (e, h)) a b = (reachable-more images (omega arith), reachable-fewer images (omega arith))

-- A round in place: an image that has had it.
abbrev pub AfterRound : List NameSet → ℕ → ℕ → NameSet → Type 0
AfterRound images k a x = (b : Name) → member x b ≡ through_element images k a b

module _ (images : List NameSet) (k : ℕ) where
  -- the image at i, which the round has not reached, has it next
  pub round-at : (i : ℕ) (now : List NameSet) (x : NameSet) → Passed (AfterRound images k) nothing images i now
      → ((b : Name) → member x b ≡ (relates now i b || (relates now i (element k) && relates images k b))) → AfterRound images k i x
  round-at i now x p new b =
      let same : get_or now i nothing ≡ get_or images i nothing = p.kept i (omega arith) in
      new b ∙ ap (λ (s : NameSet). member s b || (member s (element k) && relates images k b)) same

  -- an element that is related to nothing has nothing to grow
  pub round-all : (i : ℕ) (now : List NameSet) → NonePast i images → Passed (AfterRound images k) nothing images i now
      → (a : ℕ) (b : Name) → relates now a b ≡ through_element images k a b
  round-all i now past p a b = pick (ltb a i) refl
    where
      pick : (c : Bool) → ltb a i ≡ c → relates now a b ≡ through_element images k a b
      pick true e = p.done a (ltb-true a i e) b
      pick false e =
          let l = ltb-false a i e in
          let none : (n : Name) → relates images a n ≡ false = λ n. past a n l in
          ap (λ (s : NameSet). member s b) (p.kept a l) ∙ none b ∙ sym (ap₂ (λ (x y : Bool). x || (y && relates images k b)) (none b) (none (element k)))

-- a round leaves it so
pub round-none-past : (images : List NameSet) (k count : ℕ) (out : List NameSet) → NonePast count images → ((a : ℕ) (b : Name) → relates out a b ≡ through_element images k a b)
    → NonePast count out
round-none-past images k count out past step a b l = step a b ∙ ap₂ (λ (x y : Bool). x || (y && relates images k b)) (past a b l) (past a (element k) l)

-- past so many elements as are counted, or as there are images, none is related to a name
pub none-past-rounds : (images : List NameSet) (r count : ℕ) → (r ≡ count) ⊎ ((r ≡ length images) × (length images ≤ count)) → NonePast count images → NonePast r images
none-past-rounds images r count (inl e) past a b l = past a b (omega arith)
none-past-rounds images r count (inr (e, h)) past a b l = false_of (relates images a b) (no-image images a b (omega arith))
