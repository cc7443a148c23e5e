-- Laws of the order of refusals: the least place of the lowest number comes first.
use Rattle.std.specs.Prelude.{Bool, true, false, cond, ◌&&◌, ◌||◌, ◌⊎◌, ◌≡◌, ℕ, suc, ◌+◌, ◌≤◌, ◌<◌, ltb, length}
use mathlib.Core.List.Memᴰ.{append_cases}
use mathlib.Core.List.Memᴰ.{head as here}
use mathlib.Core.List.Memᴰ.{tail as there}
use mathlib.Core.List.{List, [], ◌∷◌, ◌++◌, Memᴰ as In}
use Rattle.std.proofs.Common.{inl, inr, sym, ap₂, subst, ◌∙◌, arith, ltb-true, ltb-false, le-ltb, eq-eqb, ne_eqb}
use Rattle.std.proofs.Math.Option.{none, some}
use Rattle.std.proofs.Math.Path.{refl, ap}
use Rattle.schema.specs.particles.ReadingLaws.{between-from}
use Rattle.schema.specs.particles.Readings.{Between}
use Rattle.schema.specs.places.PlaceLaws.{head-least}
use Rattle.schema_laws.specs.Lists.{in-nothing}
use Rattle.schema_reader.specs.declared_names.Names.{is_among, twice_at}
use Rattle.text_laws.specs.Lists.{map-in}
use Rattle.text_laws.specs.Tests.{never, cond_yes as yes, cond_no as no}
use Rattle.text_spec.specs.Lists.{filter_by, first, places_from}
use Rattle.text_spec.specs.Refusals.{Reason, number_of, Refusal, at, all_at, before, first_from, first_of}
use Rattle.text_spec.specs.Scans.{name_at}

-- all of these refusals have a number above that of r
abbrev pub Later : Reason → List Refusal → Type 0
Later r fs = (g : Refusal) → In g fs → number_of r < number_of g.reason

pub later-none : (r : Reason) → Later r []
later-none r g i = absurd (in-nothing refl i)

pub later-all : (r q : Reason) (ks : List ℕ) → number_of r < number_of q → Later r (all_at q ks)
later-all r q ks h g i = let z = map-in (at q) ks i in let e : number_of g.reason ≡ number_of q = ap (λ (f : Refusal). number_of f.reason) z.2 in omega arith

pub later-append : (r : Reason) (fs gs : List Refusal) → Later r fs → Later r gs → Later r (fs ++ gs)
later-append r fs gs a b g i = go (append_cases fs i)
  where
    go : In g fs ⊎ In g gs → number_of r < number_of g.reason
    go (inl j) = a g j
    go (inr j) = b g j

-- a later refusal does not come before
not-before : (f g : Refusal) → number_of f.reason < number_of g.reason → before g f ≡ false
not-before f g h =
    ap₂ (λ (x y : Bool). x || (y && ltb g.place f.place)) (le-ltb (number_of g.reason) (number_of f.reason) (omega arith))
    (ne_eqb (number_of g.reason) (number_of f.reason) (λ e. absurd (omega arith)))

before_same : (r : Reason) (j k : ℕ) → before (at r j) (at r k) ≡ ltb j k
before_same r j k = ap₂ (λ (x y : Bool). x || (y && ltb j k)) (le-ltb (number_of r) (number_of r) (omega arith)) (eq-eqb (number_of r) (number_of r) refl)

stays-first : (f : Refusal) (fs : List Refusal) → Later f.reason fs → first_from f fs ≡ f
stays-first f [] l = refl
stays-first f (g ∷ fs) l = ap (λ (x : Refusal). first_from x fs) (no g f (not-before f g (l g (here refl)))) ∙ stays-first f fs (λ x i. l x (there i))

module _ (r : Reason) (rest : List Refusal) (later : Later r rest) where
  least-from : (k : ℕ) (ks : List ℕ) (m : ℕ) → In m (k ∷ ks) → ((x : ℕ) → In x (k ∷ ks) → m ≤ x) → first_from (at r k) (all_at r ks ++ rest) ≡ at r m
  least-from k [] m (here e) l = ap (λ (x : ℕ). first_from (at r x) rest) (sym e) ∙ stays-first (at r m) rest later
  least-from k [] m (there i) l = absurd (in-nothing refl i)
  least-from k (j ∷ ks) m i l = go (ltb j k) refl i (least-from j ks m) (least-from k ks m)
    where
      go : (t : Bool) → ltb j k ≡ t → In m (k ∷ j ∷ ks) → (In m (j ∷ ks) → ((x : ℕ) → In x (j ∷ ks) → m ≤ x) → first_from (at r j) (all_at r ks ++ rest) ≡ at r m)
          → (In m (k ∷ ks) → ((x : ℕ) → In x (k ∷ ks) → m ≤ x) → first_from (at r k) (all_at r ks ++ rest) ≡ at r m) → first_from (cond (before (at r j) (at r k)) (at r j) (at r k)) (all_at r ks ++ rest) ≡ at r m
      go true e (here q) a b = absurd (let z = l j (there (here refl)) in let y = ltb-true j k e in omega arith)
      go true e (there i) a b = ap (λ (f : Refusal). first_from f (all_at r ks ++ rest)) (yes (at r j) (at r k) (before_same r j k ∙ e)) ∙ a i (λ x h. l x (there h))
      go false e i a b = ap (λ (f : Refusal). first_from f (all_at r ks ++ rest)) (no (at r j) (at r k) (before_same r j k ∙ e)) ∙ b (move i) (λ x h. l x (skip x h))
        where
          skip : (x : ℕ) → In x (k ∷ ks) → In x (k ∷ j ∷ ks)
          skip x (here q) = here q
          skip x (there h) = there (there h)

          move : In m (k ∷ j ∷ ks) → In m (k ∷ ks)
          move (here q) = here q
          move (there (here q)) = let z = l k (here refl) in let y = ltb-false j k e in let w : m ≡ k = omega arith in here w
          move (there (there h)) = there h

  -- the first of refusals at these places, and of later ones
  pub least_first : (ks : List ℕ) (m : ℕ) → In m ks → ((x : ℕ) → In x ks → m ≤ x) → first_of (all_at r ks ++ rest) ≡ some (at r m)
  unfolding first_of
  least_first [] m i l = absurd (in-nothing refl i)
  least_first (k ∷ ks) m i l = ap some (least-from k ks m i l)

-- ---- the first of places in rising order is the least
pub place_found : (low high : ℕ) (ks : List ℕ) → Between low high ks → {k : ℕ} → some k ≡ first ks → In k ks × ((x : ℕ) → In x ks → k ≤ x)
place_found low high [] b e = never (cc)
place_found low high (p ∷ ps) b {k} e =
    let q : k ≡ p = cc in
    (here q, λ x i. let z = head-least low high p ps b i in omega arith)

pub place_none : (ks : List ℕ) → none ≡ first ks → ks ≡ []
place_none [] e = refl
place_none (p ∷ ps) e = never (cc)

pub places-rise : {A : Type 0} (f : A → Bool) (k : ℕ) (xs : List A) → Between k (k + length xs) (places_from k f xs)
places-rise f k [] = omega arith
places-rise f k (x ∷ xs) = go (f x) (subst (λ (n : ℕ). Between (suc k) n (places_from (suc k) f xs)) (let e : suc k + length xs ≡ k + suc (length xs) = omega arith in e) (places-rise f (suc k) xs))
  where
    go : (t : Bool) → Between (suc k) (k + suc (length xs)) (places_from (suc k) f xs) → Between k (k + suc (length xs)) (cond t (k ∷ places_from (suc k) f xs) (places_from (suc k) f xs))
    go true b = (omega arith, b)
    go false b = between-from (suc k) k (k + suc (length xs)) (places_from (suc k) f xs) (omega arith) b

pub filter-rise : (f : ℕ → Bool) (low high : ℕ) (ps : List ℕ) → Between low high ps → Between low high (filter_by f ps)
filter-rise f low high [] b = b
filter-rise f low high (p ∷ ps) b = go (f p) (filter-rise f (suc p) high ps b.1)
  where
    go : (t : Bool) → Between (suc p) high (filter_by f ps) → Between low high (cond t (p ∷ filter_by f ps) (filter_by f ps))
    go true c = (b.0, c)
    go false c = let z = b.0 in between-from (suc p) low high (filter_by f ps) (omega arith) c

pub twice-rise : (s : List ℕ) (ns : List (List ℕ)) (low high : ℕ) (ps : List ℕ) → Between low high ps → Between low high (twice_at s ns ps)
twice-rise s ns low high [] b = b
twice-rise s ns low high (p ∷ ps) b = go (is_among s ns p) (twice-rise s (name_at s p ∷ ns) (suc p) high ps b.1)
  where
    go : (t : Bool) → Between (suc p) high (twice_at s (name_at s p ∷ ns) ps) → Between low high (cond t (p ∷ twice_at s (name_at s p ∷ ns) ps) (twice_at s (name_at s p ∷ ns) ps))
    go true c = (b.0, c)
    go false c = let z = b.0 in between-from (suc p) low high (twice_at s (name_at s p ∷ ns) ps) (omega arith) c
