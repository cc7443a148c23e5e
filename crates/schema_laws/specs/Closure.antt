-- The closure of a relation relates exactly what a chain of one or more steps does, and 'below' computed is one or more holdings.
use Rattle.std.specs.Prelude.{Bool, true, false, cond, ◌&&◌, ◌⊎◌, ◌↔◌, ◌≡◌, refl, ℕ, zero, suc, ◌<◌, eqb, length}
use mathlib.Core.List.Memᴰ.{head as here}
use mathlib.Core.List.Memᴰ.{tail as there}
use mathlib.Core.List.{[], ◌∷◌, Memᴰ as In}
use Rattle.std.proofs.Common.{inl, inr, sym, subst, arith, eqb→eq}
use Rattle.std.proofs.Math.Logic.{⊎_elim}
use Rattle.std.proofs.Math.Dec.{T, eqb_refl}
use Rattle.schema_laws.specs.Names.{same-equal, same-name, has_in, in-has, element-in, text_in, pcdata-declared}
use Rattle.schema_spec.specs.Closure.{Relation, line_of, related, table_of, through, by_way_of, closure}
use Rattle.schema_spec.specs.Names.{Name, Names, element, text, same_name, has, names_of}
use Rattle.schema_spec.specs.Schemas.{Schema, content_at, model_at, is_pcdata}
use Rattle.schema_spec.specs.Types.{holds, Below, held, further, types_of, is_below}
use Rattle.text_laws.specs.Lists.{any-in, in-any, in-filter, filter-in}
use Rattle.text_laws.specs.Tests.{passed, failed, or_left, or_right, or_cases, and_intro, and_cases}
use Rattle.text_spec.specs.Lists.{filter_by}

-- one or more steps of f, all names on the way in ns
pub data Chain (ns : Names) (f : Name → Name → Bool) : Name → Name → Type 0 where
  one : {a b : Name} → In a ns → In b ns → T (f a b) → Chain ns f a b
  more : {a b c : Name} → In a ns → T (f a b) → Chain ns f b c → Chain ns f a c

module _ {ns : Names} {f : Name → Name → Bool} where
  pub chain-from : {a b : Name} → Chain ns f a b → In a ns
  chain-from (one i j t) = i
  chain-from (more i t c) = i

  pub chain-to : {a b : Name} → Chain ns f a b → In b ns
  chain-to (one i j t) = j
  chain-to (more i t c) = chain-to c

  pub chain-join : {a b c : Name} → Chain ns f a b → Chain ns f b c → Chain ns f a c
  chain-join (one i j t) d = more i t d
  chain-join (more i t c) d = more i t (chain-join c d)

-- a table relates what its test passes, among the names of its two lists
module _ (ns : Names) (f : Name → Name → Bool) (a b : Name) where
  line-in : (c : Bool) (m : Name) (r : Names) → same_name a m ≡ c → (T (same_name a m) → In b (filter_by (f m) ns)) → ((T (same_name a m) → ⊥) → T (has b r))
      → T (has b (cond c (filter_by (f m) ns) r))
  line-in true m r e h k = in-has (h (passed e))
  line-in false m r e h k = k (failed e)

  line-out : (c : Bool) (m : Name) (r : Names) → same_name a m ≡ c → T (has b (cond c (filter_by (f m) ns) r)) → ((a ≡ m) × In b (filter_by (f m) ns)) ⊎ T (has b r)
  line-out true m r e t = inl (same-equal a m (passed e), has_in b (filter_by (f m) ns) t)
  line-out false m r e t = inr t

  pub in_table : {ms : Names} → In a ms → In b ns → T (f a b) → T (related (table_of ms ns f) a b)
  in_table (here {x = m} {xs = ms} e) j t =
      line-in (same_name a m) m (line_of (table_of ms ns f) a) refl (λ q. in-filter (f m) j (subst (λ (z : Name). T (f z b)) e t))
      (λ n. absurd (n (subst (λ (z : Name). T (same_name a z)) e (same-name a))))
  in_table (there {x = m} {xs = ms} i) j t =
      line-in (same_name a m) m (line_of (table_of ms ns f) a) refl (λ q. in-filter (f m) j (subst (λ (z : Name). T (f z b)) (same-equal a m q) t))
      (λ n. in_table i j t)

  pub table-in : (ms : Names) → T (related (table_of ms ns f) a b) → In a ms × In b ns × T (f a b)
  table-in [] t = absurd t
  table-in (m ∷ ms) t =
      ⊎_elim (λ h.
      let r = filter-in (f m) ns h.1 in
      (here h.0, r.0, subst (λ (z : Name). T (f z b)) (sym h.0) r.1))
      (λ h.
      let r = table-in ms h in
      (there r.0, r.1, r.2)) (line-out (same_name a m) m (line_of (table_of ms ns f) a) refl t)

-- what `through` says of the name k itself
module _ (r : Relation) (k : Name) where
  into : (a : Name) → T (through r k a k) → T (related r a k)
  into a t = ⊎_elim (λ h. h) (λ h. (and_cases (related r a k) (related r k k) h).0) (or_cases (related r a k) (related r a k && related r k k) t)

  from : (b : Name) → T (through r k k b) → T (related r k b)
  from b t = ⊎_elim (λ h. h) (λ h. (and_cases (related r k k) (related r k b) h).1) (or_cases (related r k b) (related r k k && related r k b) t)

  join : (a b : Name) → T (related r a k) → T (related r k b) → T (through r k a b)
  join a b s t = or_right (related r a b) (related r a k && related r k b) (and_intro (related r a k) (related r k b) s t)

  -- where r is transitive by way of m, so is what comes of it
  through-join : (a m b : Name) → ((x y : Name) → T (related r x m) → T (related r m y) → T (related r x y))
      → T (through r k a m) → T (through r k m b) → T (through r k a b)
  through-join a m b h s t = pick (or_cases (related r a m) (related r a k && related r k m) s) (or_cases (related r m b) (related r m k && related r k b) t)
    where
      pick : T (related r a m) ⊎ T (related r a k && related r k m) → T (related r m b) ⊎ T (related r m k && related r k b) → T (through r k a b)
      pick (inl am) (inl mb) = or_left (related r a b) (related r a k && related r k b) (h a b am mb)
      pick (inl am) (inr mkb) =
          let p = and_cases (related r m k) (related r k b) mkb in
          join a b (h a k am p.0) p.1
      pick (inr akm) (inl mb) =
          let q = and_cases (related r a k) (related r k m) akm in
          join a b q.0 (h k b q.1 mb)
      pick (inr akm) (inr mkb) = join a b (and_cases (related r a k) (related r k m) akm).0 (and_cases (related r m k) (related r k b) mkb).1

module _ (ns : Names) (f : Name → Name → Bool) where
  by_one : (ks : Names) (a b : Name) → In a ns → In b ns → T (f a b) → T (related (by_way_of ns f ks) a b)
  unfolding by_way_of
  by_one [] a b i j t = in_table ns f a b i j t
  by_one (k ∷ ks) a b i j t =
      let r = by_way_of ns f ks in
      in_table ns (through r k) a b i j (or_left (related r a b) (related r a k && related r k b) (by_one ks a b i j t))

  -- two steps by way of one of the names taken so far are one
  by-join : (ks : Names) (a m b : Name) → In m ks → T (related (by_way_of ns f ks) a m) → T (related (by_way_of ns f ks) m b)
      → T (related (by_way_of ns f ks) a b)
  unfolding by_way_of
  by-join (k ∷ ks) a m b (here e) s t =
      let r = by_way_of ns f ks in
      let p = table-in ns (through r k) a m ns s in
      let q = table-in ns (through r k) m b ns t in
      in_table ns (through r k) a b p.0 q.1
      (join r k a b (into r k a (subst (λ (z : Name). T (through r k a z)) e p.2)) (from r k b (subst (λ (z : Name). T (through r k z b)) e q.2)))
  by-join (k ∷ ks) a m b (there h) s t =
      let r = by_way_of ns f ks in
      let p = table-in ns (through r k) a m ns s in
      let q = table-in ns (through r k) m b ns t in
      in_table ns (through r k) a b p.0 q.1
      (through-join r k a m b (λ x y. by-join ks x m y h) p.2 q.2)
  by-join [] a m b x3 s t = elim x3 [ ]

  by_chain : (ks : Names) (a b : Name) → T (related (by_way_of ns f ks) a b) → Chain ns f a b
  unfolding by_way_of
  by_chain [] a b t =
      let r = table-in ns f a b ns t in
      one r.0 r.1 r.2
  by_chain (k ∷ ks) a b t =
      let r = by_way_of ns f ks in
      ⊎_elim (by_chain ks a b)
      (λ h.
      let p = and_cases (related r a k) (related r k b) h in
      chain-join (by_chain ks a k p.0) (by_chain ks k b p.1))
      (or_cases (related r a b) (related r a k && related r k b) (table-in ns (through r k) a b ns t).2)

  -- the closure relates two names exactly if a chain within ns does
  pub closure-chain : (a b : Name) → T (related (closure ns f) a b) → Chain ns f a b
  unfolding closure
  closure-chain a b t = by_chain ns a b t

  pub chain-closure : {a b : Name} → Chain ns f a b → T (related (closure ns f) a b)
  unfolding closure
  chain-closure (one {a = a} {b = b} i j t) = by_one ns a b i j t
  chain-closure (more {a = a} {b = b} {c = c} i t r) =
      by-join ns a b c (chain-from r) (by_one ns a b i (chain-from r) t) (chain-closure r)

-- only an element of the schema has a model
pub model-declared : (s : Schema) (a : ℕ) {b : ℕ} → In b (model_at s a) → a < length s
model-declared [] a i = elim i [ ]
model-declared (e ∷ s) zero i = omega arith
model-declared (e ∷ s) (suc a) i =
    let r = model-declared s a i in
    omega arith

pub holds-model : (s : Schema) (a b : ℕ) → T (holds s (element a) (element b)) → In b (model_at s a)
unfolding holds
holds-model s a b t =
    let r = in-any (eqb b) (model_at s a) t in
    subst (λ (c : ℕ). In c (model_at s a)) (sym (eqb→eq b r.0 r.2)) r.1

pub model-holds : (s : Schema) (a : ℕ) {b : ℕ} → In b (model_at s a) → T (holds s (element a) (element b))
unfolding holds
model-holds s a {b} i = any-in (eqb b) i (eqb_refl b)

pub holds_text : (s : Schema) (a b : ℕ) → T (holds s (element a) (text b)) → (a ≡ b) × T (is_pcdata (content_at s a))
unfolding holds
holds_text s a b t =
    let r = and_cases (eqb a b) (is_pcdata (content_at s a)) t in
    (eqb→eq a b r.0, r.1)

pub text-holds : (s : Schema) (a : ℕ) → T (is_pcdata (content_at s a)) → T (holds s (element a) (text a))
unfolding holds
text-holds s a t = and_intro (eqb a a) (is_pcdata (content_at s a)) (eqb_refl a) t

pub text-holds-none : (s : Schema) (a : ℕ) (b : Name) → T (holds s (text a) b) → ⊥
unfolding holds
text-holds-none s a b t = t

-- only names of the schema hold anything
pub holder_in : (s : Schema) (a b : Name) → T (holds s a b) → In a (names_of s)
holder_in s (element a) (element b) t = element-in s a (model-declared s a (holds-model s a b t))
holder_in s (element a) (text b) t = element-in s a (pcdata-declared s a (holds_text s a b t).1)
holder_in s (text a) b t = absurd (text-holds-none s a b t)

-- each name in a model is an element of the schema, as it is in a schema that was accepted
abbrev pub Closed : Schema → Type 0
Closed s = (a b : ℕ) → In b (model_at s a) → b < length s

-- then what is held is a name of the schema
pub held_in : (s : Schema) → Closed s → (a b : Name) → T (holds s a b) → In b (names_of s)
held_in s c (element a) (element b) t = element-in s b (c a b (holds-model s a b t))
held_in s c (element a) (text b) t =
    let r = holds_text s a b t in
    text_in s b (subst (λ (x : ℕ). T (is_pcdata (content_at s x))) r.0 r.1)
held_in s c (text a) b t = absurd (text-holds-none s a b t)

chain-below : {s : Schema} {a b : Name} → Chain (names_of s) (holds s) a b → Below s a b
chain-below (one i j t) = held t
chain-below (more i t r) = further t (chain-below r)

below_chain : {s : Schema} → Closed s → {a b : Name} → Below s a b → Chain (names_of s) (holds s) a b
below_chain {s} c (held {a = a} {b = b} t) = one (holder_in s a b t) (held_in s c a b t) t
below_chain {s} c (further {a = a} {b = b} t r) = more (holder_in s a b t) t (below_chain c r)

-- 'below' computed is one or more holdings
pub is_below-below : (s : Schema) (a b : Name) → T (is_below (types_of s) a b) → Below s a b
unfolding types_of
is_below-below s a b t = chain-below (closure-chain (names_of s) (holds s) a b t)

pub below-is_below : (s : Schema) → Closed s → {a b : Name} → Below s a b → T (is_below (types_of s) a b)
unfolding types_of
below-is_below s c r = chain-closure (names_of s) (holds s) (below_chain c r)

pub is_below-decides : (s : Schema) → Closed s → (a b : Name) → T (is_below (types_of s) a b) ↔ Below s a b
is_below-decides s c a b = (is_below-below s a b, below-is_below s c)

-- both ends of 'below' are names of the schema
pub below_names : (s : Schema) → Closed s → {a b : Name} → Below s a b → In a (names_of s) × In b (names_of s)
below_names s c r =
    let q = below_chain c r in
    (chain-from q, chain-to q)
