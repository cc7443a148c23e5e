-- The outcome where the refusals of one number come first: the least place of these.
use mathlib.Core.List.Memᴰ.{append_cases}
use mathlib.Core.List.Memᴰ.{append_left}
use mathlib.Core.List.{List, [], ◌++◌, Memᴰ as In}
use Rattle.std.proofs.Common.{⊎_elim, sym, ap, subst, ◌∙◌, arith}
use Rattle.std.specs.Prelude.{◌≡◌, refl, ℕ, ◌<◌, ◌≤◌}
use Rattle.text_laws.specs.Lists.{map-in, in_map}
use Rattle.text_laws.specs.Order.{judged-first, judged-once}
use Rattle.text_spec.specs.Refusals.{Reason, number_of, Refusal, at, all_at, refused, judged, turned-back}

-- all of these refusals have a number above that of r
abbrev pub Later : Reason → List Refusal → Type 0
Later r fs = (g : Refusal) → In g fs → number_of r < number_of g.reason

pub later-none : (r : Reason) → Later r []
later-none r g i = elim i [ ]

pub later-all : (r q : Reason) (ks : List ℕ) → number_of r < number_of q → Later r (all_at q ks)
later-all r q ks h g i =
    let z = map-in (at q) ks i in
    let e : number_of g.reason ≡ number_of q = ap (λ (f : Refusal). number_of f.reason) z.2 in
    omega arith

pub later-append : (r : Reason) (fs gs : List Refusal) → Later r fs → Later r gs → Later r (fs ++ gs)
later-append r fs gs a b g i = ⊎_elim (a g) (b g) (append_cases fs i)

-- these refusals are all for r, and k is the least of their places
pub record Least (r : Reason) (k : ℕ) (fs : List Refusal) : Type 0 where
  pub listed : In (at r k) fs
  pub only : (g : Refusal) → In g fs → g.reason ≡ r
  pub least : (g : Refusal) → In g fs → k ≤ g.place

pub least-all : (r : Reason) (k : ℕ) (ks : List ℕ) → In k ks → ((x : ℕ) → In x ks → k ≤ x) → Least r k (all_at r ks)
least-all r k ks i l =
    record {
      listed = in_map (at r) i;
      only = λ g j. ap (λ (f : Refusal). f.reason) (map-in (at r) ks j).2;
      least = λ g j. let z = map-in (at r) ks j in subst (λ (n : ℕ). k ≤ n) (sym (ap (λ (f : Refusal). f.place) z.2)) (l z.0 z.1);
    }

module _ {A : Type 0} (a : A) (r : Reason) (k : ℕ) (fs gs : List Refusal) (L : Least r k fs) (later : Later r gs) where
  abbrev among : Reason → ℕ → Type 0
  among q j = In (at q j) (fs ++ gs)

  lowest : (q : Reason) (j : ℕ) → among q j → number_of r ≤ number_of q
  lowest q j i =
      ⊎_elim (λ m. let e : number_of q ≡ number_of r = ap number_of (L.only (at q j) m) in omega arith) (λ m. let h = later (at q j) m in omega arith)
      (append_cases fs i)

  earliest : (j : ℕ) → among r j → k ≤ j
  earliest j i = ⊎_elim (λ m. L.least (at r j) m) (λ m. let h = later (at r j) m in absurd (omega arith)) (append_cases fs i)

  pub least-judged : judged (fs ++ gs) a ≡ refused (at r k)
  least-judged =
      judged-once among (λ b. b ≡ a) (λ x y p q. p ∙ sym q)
      (judged-first among (λ b. b ≡ a) (fs ++ gs) a (λ f i. i) (λ q j i. (j, i, omega arith)) (λ n. refl))
      (turned-back (record { applies = append_left gs L.listed; lowest = lowest; earliest = earliest }))
