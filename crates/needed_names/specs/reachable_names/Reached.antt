-- The last filter over words: what each element holds inside a set, and what is reached from the root that way.
use Rattle.std.specs.Prelude.{Bool, ◌&&◌, ◌||◌, ◌↔◌, ◌≡◌, refl, ℕ, length}
use mathlib.Core.List.{List, Memᴰ as In}
use Rattle.std.proofs.Common.{sym, arith}
use Rattle.std.proofs.Math.Path.{subst}
use Rattle.std.proofs.Math.Dec.{T}
use Rattle.inference.specs.back_steps.Laws.{within-member}
use Rattle.inference_spec.specs.Needed.{from_root}
use Rattle.names.specs.SetLaws.{set_of-in, in-set_of}
use Rattle.names.specs.Sets.{member, set_of, set_in}
use Rattle.names.specs.closures.Relations.{relates, Reachable, one, more}
use Rattle.names.specs.declared.NameSet.{NameSet}
use Rattle.schema_laws.specs.Closure as chains
use Rattle.schema_laws.specs.Closure.{Closed, Chain, chain-from, closure-chain, chain-closure, text-holds-none, holder_in, held_in}
use Rattle.schema_laws.specs.Names.{within_in, in-element}
use Rattle.schema_spec.specs.Closure.{related, closure}
use Rattle.schema_spec.specs.Names.{Name, Names, element, text, same_name, has, within, names_of}
use Rattle.schema_spec.specs.Schemas.{Schema}
use Rattle.schema_spec.specs.Types.{holds, types_of}
use Rattle.text_laws.specs.Lists.{filter-filter}
use Rattle.text_laws.specs.Tests.{and_intro, and_cases, same_test}

-- what each element holds inside the set m
abbrev pub HeldInside : Schema → NameSet → List NameSet → Type 0
HeldInside s m images = (a : ℕ) (b : Name) → relates images a b ≡ (holds s (element a) b && (member m (element a) && member m b))

module _ (s : Schema) (closed : Closed s) (count : ℕ) (counted : count ≡ length s) (l : Names) (m : NameSet) (is : set_in s m ≡ within (names_of s) l) (images : List NameSet) (table : HeldInside s m images) where
  abbrev inside : Names
  inside = within (names_of s) l

  in-inside : (n : Name) → In n (names_of s) → T (member m n) → In n inside
  in-inside n i t = subst (λ (x : Names). In n x) is (in-set_of m i t)

  inside-in : (n : Name) → In n inside → T (member m n)
  inside-in n i = (set_of-in (names_of s) m (subst (λ (x : Names). In n x) (sym is) i)).1

  held-inside : (a : ℕ) (b : Name) → T (relates images a b) → In (element a) inside × In b inside × T (holds s (element a) b)
  held-inside a b t =
      let c = and_cases (holds s (element a) b) (member m (element a) && member m b) (subst T (table a b) t) in
      let d = and_cases (member m (element a)) (member m b) c.1 in
      (in-inside (element a) (holder_in s (element a) b c.0) d.0, in-inside b (held_in s closed (element a) b c.0) d.1, c.0)

  inside-held : (a : ℕ) (b : Name) → In (element a) inside → In b inside → T (holds s (element a) b) → T (relates images a b)
  inside-held a b i j t =
      subst T (sym (table a b)) (and_intro (holds s (element a) b) (member m (element a) && member m b) t (and_intro (member m (element a)) (member m b) (inside-in (element a) i) (inside-in b j)))

  reachable-chain : {a : ℕ} {b : Name} → Reachable images count a b → Chain inside (holds s) (element a) b
  reachable-chain (one {a = a} {b = b} t) =
      let h = held-inside a b t in
      chains.Chain.one h.0 h.1 h.2
  reachable-chain (more {a = a} {m = k} t d r) =
      let h = held-inside a (element k) t in
      chains.Chain.more h.0 h.2 (reachable-chain r)

  text-leaf : {x b : Name} → Chain inside (holds s) x b → (a : ℕ) → x ≡ text a → ⊥
  text-leaf (chains.Chain.one {b = b} i j t) a e = text-holds-none s a b (subst (λ (y : Name). T (holds s y b)) e t)
  text-leaf (chains.Chain.more {b = b} i t c) a e = text-holds-none s a b (subst (λ (y : Name). T (holds s y b)) e t)

  onward : (a : ℕ) (y : Name) {b : Name} → In (element a) inside → T (holds s (element a) y) → Chain inside (holds s) y b → ((k : ℕ) → y ≡ element k → Reachable images count k b) → Reachable images count a b
  onward a (element k) i t c h =
      let j = chain-from c in
      let d = in-element s k (within_in (names_of s) l j).0 in
      more (inside-held a (element k) i j t) (omega arith) (h k refl)
  onward a (text k) i t c h = absurd (text-leaf c k refl)

  chain-reachable : {x b : Name} → Chain inside (holds s) x b → (a : ℕ) → x ≡ element a → Reachable images count a b
  chain-reachable (chains.Chain.one {b = b} i j t) a e = one (inside-held a b (subst (λ (y : Name). In y inside) e i) j (subst (λ (y : Name). T (holds s y b)) e t))
  chain-reachable (chains.Chain.more {b = y} i t c) a e = onward a y (subst (λ (z : Name). In z inside) e i) (subst (λ (z : Name). T (holds s z y)) e t) c (chain-reachable c)

  pub reached-related : (r : List NameSet) → ((a : ℕ) (b : Name) → T (relates r a b) ↔ Reachable images count a b) → (n : Name) → relates r 0 n ≡ related (closure inside (holds s)) (element 0) n
  reached-related r h n =
      same_test (relates r 0 n) (related (closure inside (holds s)) (element 0) n) (λ t. chain-closure inside (holds s) (reachable-chain ((h 0 n).0 t)))
      (λ t. (h 0 n).1 (chain-reachable (closure-chain inside (holds s) (element 0) n t) 0 refl))

  -- the names of m that the root reaches inside it
  pub reached-from_root : (r : List NameSet) (out : NameSet) → ((a : ℕ) (b : Name) → T (relates r a b) ↔ Reachable images count a b)
      → ((n : Name) → member out n ≡ (member m n && (same_name (element 0) n || relates r 0 n))) → set_in s out ≡ from_root (types_of s) l
  unfolding set_of from_root types_of
  reached-from_root r out h new =
      filter-filter (member out) (λ n. same_name (element 0) n || related (closure inside (holds s)) (element 0) n) (λ n. has n l) (names_of s)
      (λ n i t.
      let c = and_cases (member m n) (same_name (element 0) n || relates r 0 n) (subst T (new n) t) in
      (subst T (within-member s m l is n i) c.0, subst (λ (b : Bool). T (same_name (element 0) n || b)) (reached-related r h n) c.1))
      (λ n i t u. subst T (sym (new n)) (and_intro (member m n) (same_name (element 0) n || relates r 0 n) (subst T (sym (within-member s m l is n i)) t)
      (subst (λ (b : Bool). T (same_name (element 0) n || b)) (sym (reached-related r h n)) u)))
