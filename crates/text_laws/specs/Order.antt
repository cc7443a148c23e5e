-- The order of refusals: where a list of refusals agrees with the conditions, the outcome is judged by the first that applies.
-- It serves every reader.
use Rattle.std.specs.Prelude.{Bool, true, false, cond, ◌&&◌, ◌≡◌, refl, ℕ, ◌≤◌, ◌<◌, T, eqb, ltb}
use mathlib.Core.List.Memᴰ.{append_cases}
use mathlib.Core.List.Memᴰ.{append_left}
use mathlib.Core.List.Memᴰ.{append_right}
use mathlib.Core.List.Memᴰ.{head as here}
use mathlib.Core.List.Memᴰ.{tail as there}
use mathlib.Core.List.{List, [], ◌∷◌, ◌++◌, Memᴰ as In}
use Rattle.std.proofs.Common.{⊎_elim, sym, ap, ap₂, subst, ◌∙◌, arith, eqb→eq, ltb→lt, lt→ltb}
use Rattle.std.proofs.Math.Dec.{eqb_refl}
use Rattle.text_laws.specs.Lists.{in_map, map-in}
use Rattle.text_laws.specs.Tests.{or_left, or_right, or_cases, and_intro, and_cases}
use Rattle.text_spec.specs.Refusals.{Reason, bad_record, bad_length, bad_byte, bad_schema, over_schema_limit, declared_twice, undeclared_in_model, bad_path, over_path_limit, undeclared_in_path, misspelt, bad_nesting, over_depth, undeclared_element, bad_content, over_node_limit, bad_extract, too_few_cells, number_of, Refusal, at, all_at, given, before, first_from, first_of, Outcome, accepted, refused, judged, IsFirst, Judged, turned-back, taken}

-- f comes no later than g: by number, then by place
pub record NoLater (f g : Refusal) : Type 0 where
  pub by_number : number_of f.reason ≤ number_of g.reason
  pub by_place : number_of f.reason ≡ number_of g.reason → f.place ≤ g.place

no-later-itself : (f : Refusal) → NoLater f f
no-later-itself f = record { by_number = omega arith; by_place = λ e. omega arith }

no-later-chain : {f g h : Refusal} → NoLater f g → NoLater g h → NoLater f h
no-later-chain {f} {g} {h} x y = record { by_number = omega (arith, x.by_number, y.by_number); by_place = places }
  where
    places : number_of f.reason ≡ number_of h.reason → f.place ≤ h.place
    places e =
        let i : number_of f.reason ≡ number_of g.reason = omega (arith, x.by_number, y.by_number) in
        let j : number_of g.reason ≡ number_of h.reason = omega arith in
        omega (arith, x.by_place i, y.by_place j)

before-no-later : (f g : Refusal) → T (before f g) → NoLater f g
before-no-later f g t =
    ⊎_elim (λ l. smaller (ltb→lt (number_of f.reason) (number_of g.reason) l)) equal
    (or_cases (ltb (number_of f.reason) (number_of g.reason)) (eqb (number_of f.reason) (number_of g.reason) && ltb f.place g.place) t)
  where
    smaller : number_of f.reason < number_of g.reason → NoLater f g
    smaller l = record { by_number = omega arith; by_place = λ e. omega arith }

    equal : T (eqb (number_of f.reason) (number_of g.reason) && ltb f.place g.place) → NoLater f g
    equal u =
        let c = and_cases (eqb (number_of f.reason) (number_of g.reason)) (ltb f.place g.place) u in
        let e = eqb→eq (number_of f.reason) (number_of g.reason) c.0 in
        let l = ltb→lt f.place g.place c.1 in
        record { by_number = omega arith; by_place = λ i. omega arith }

not-before-no-later : (f g : Refusal) → (T (before f g) → ⊥) → NoLater g f
not-before-no-later f g n =
    let x : (number_of f.reason < number_of g.reason → ⊥) = λ l.
    n (or_left (ltb (number_of f.reason) (number_of g.reason)) (eqb (number_of f.reason) (number_of g.reason) && ltb f.place g.place) (lt→ltb (number_of f.reason) (number_of g.reason) l)) in
    record { by_number = omega arith; by_place = places }
  where
    places : number_of g.reason ≡ number_of f.reason → g.place ≤ f.place
    places e =
        let y : (f.place < g.place → ⊥) = λ l.
        n (or_right (ltb (number_of f.reason) (number_of g.reason)) (eqb (number_of f.reason) (number_of g.reason) && ltb f.place g.place)
        (and_intro (eqb (number_of f.reason) (number_of g.reason)) (ltb f.place g.place)
        (subst (λ (m : ℕ). T (eqb (number_of f.reason) m)) (sym e) (eqb_refl (number_of f.reason))) (lt→ltb f.place g.place l))) in
        omega arith

-- the earlier of two
data Earlier (f g : Refusal) : Refusal → Type 0 where
  first : NoLater f g → Earlier f g f
  second : NoLater g f → Earlier f g g

earlier : (f g : Refusal) → Earlier f g (cond (before g f) g f)
earlier f g = pick (before g f) refl
  where
    pick : (b : Bool) → before g f ≡ b → Earlier f g (cond b g f)
    pick true e = second (before-no-later g f (subst T (sym e) tt))
    pick false e = first (not-before-no-later g f (λ t. subst T e t))

-- the first of a list is one of it, and none of it comes before
first-in : (f : Refusal) (gs : List Refusal) → In (first_from f gs) (f ∷ gs)
first-in f [] = here refl
first-in f (g ∷ gs) = from (earlier f g) (first-in (cond (before g f) g f) gs)
  where
    from : {e : Refusal} → Earlier f g e → In (first_from e gs) (e ∷ gs) → In (first_from e gs) (f ∷ g ∷ gs)
    from (first x) (here i) = here i
    from (first x) (there i) = there (there i)
    from (second x) i = there i

first-no-later : (f : Refusal) (gs : List Refusal) (h : Refusal) → In h (f ∷ gs) → NoLater (first_from f gs) h
first-no-later f [] h (here e) = subst (λ (i : Refusal). NoLater f i) (sym e) (no-later-itself f)
first-no-later f (g ∷ gs) h i = from (earlier f g) (first-no-later (cond (before g f) g f) gs) i
  where
    from : {e : Refusal} → Earlier f g e → ((k : Refusal) → In k (e ∷ gs) → NoLater (first_from e gs) k) → In h (f ∷ g ∷ gs) → NoLater (first_from e gs) h
    from (first x) later (here e) = later h (here e)
    from (first x) later (there (here e)) = no-later-chain (later f (here refl)) (subst (λ (k : Refusal). NoLater f k) (sym e) x)
    from (first x) later (there (there j)) = later h (there j)
    from (second x) later (here e) = no-later-chain (later g (here refl)) (subst (λ (k : Refusal). NoLater g k) (sym e) x)
    from (second x) later (there j) = later h j
first-no-later f [] h (there x5) = elim x5 [ ]

-- each refusal of the list applies
abbrev pub Found : (Reason → ℕ → Type 0) → List Refusal → Type 0
Found Applies fs = (f : Refusal) → In f fs → Applies f.reason f.place

-- a reason is listed at a place not later than k
abbrev pub Listed : List Refusal → Reason → ℕ → Type 0
Listed fs r k = (j : ℕ) × In (at r j) fs × (j ≤ k)

-- The law: the first of the list applies, and for each refusal that applies one is listed that comes no later.
pub judged-least : {A : Type 0} (Applies : Reason → ℕ → Type 0) (Gives : A → Type 0) (fs : List Refusal) (a : A)
    → ((f : Refusal) → In f fs → ((g : Refusal) → In g fs → NoLater f g) → Applies f.reason f.place)
    → ((r : Reason) (k : ℕ) → Applies r k → (g : Refusal) × In g fs × NoLater g (at r k)) → (fs ≡ [] → ((r : Reason) (k : ℕ) → Applies r k → ⊥) → Gives a)
    → Judged Applies Gives (judged fs a)
unfolding first_of
judged-least Applies Gives [] a found listed gives =
    taken none (gives refl none)
  where
    none : (r : Reason) (k : ℕ) → Applies r k → ⊥
    none r k x = elim (listed r k x).1 [ ]
judged-least Applies Gives (f ∷ fs) a found listed gives =
    turned-back (record {
      applies = found (first_from f fs) (first-in f fs) (first-no-later f fs);
      lowest = λ q j x. (before-all q j (listed q j x)).by_number;
      earliest = λ j x. (before-all (first_from f fs).reason j (listed (first_from f fs).reason j x)).by_place refl;
    })
  where
    before-all : (r : Reason) (k : ℕ) → (g : Refusal) × In g (f ∷ fs) × NoLater g (at r k) → NoLater (first_from f fs) (at r k)
    before-all r k (g, i, l) = no-later-chain (first-no-later f fs g i) l

-- The same, where each listed refusal applies, and each that applies is listed at a place not later.
pub judged-first : {A : Type 0} (Applies : Reason → ℕ → Type 0) (Gives : A → Type 0) (fs : List Refusal) (a : A) → Found Applies fs
    → ((r : Reason) (k : ℕ) → Applies r k → Listed fs r k) → (((r : Reason) (k : ℕ) → Applies r k → ⊥) → Gives a) → Judged Applies Gives (judged fs a)
judged-first Applies Gives fs a found listed gives =
    judged-least Applies Gives fs a (λ f i l. found f i) (λ r k x. earlier-one r k (listed r k x)) (λ e none. gives none)
  where
    earlier-one : (r : Reason) (k : ℕ) → Listed fs r k → (g : Refusal) × In g fs × NoLater g (at r k)
    earlier-one r k (j, i, l) = (at r j, i, record { by_number = omega arith; by_place = λ e. l })

-- the reason with a number
abbrev reason_of : ℕ → Reason
reason_of n =
    cond (eqb n 1) bad_record
    (cond (eqb n 2) bad_length
    (cond (eqb n 3) bad_byte
    (cond (eqb n 4) bad_schema
    (cond (eqb n 5) over_schema_limit
    (cond (eqb n 6) declared_twice
    (cond (eqb n 7) undeclared_in_model
    (cond (eqb n 8) bad_path
    (cond (eqb n 9) over_path_limit
    (cond (eqb n 10) undeclared_in_path
    (cond (eqb n 11) misspelt
    (cond (eqb n 12) bad_nesting
    (cond (eqb n 13) over_depth
    (cond (eqb n 14) undeclared_element
    (cond (eqb n 15) bad_content
    (cond (eqb n 16) over_node_limit
    (cond (eqb n 17) bad_extract too_few_cells))))))))))))))))

reason-numbered : (r : Reason) → reason_of (number_of r) ≡ r
reason-numbered bad_record = refl
reason-numbered bad_length = refl
reason-numbered bad_byte = refl
reason-numbered bad_schema = refl
reason-numbered over_schema_limit = refl
reason-numbered declared_twice = refl
reason-numbered undeclared_in_model = refl
reason-numbered bad_path = refl
reason-numbered over_path_limit = refl
reason-numbered undeclared_in_path = refl
reason-numbered misspelt = refl
reason-numbered bad_nesting = refl
reason-numbered over_depth = refl
reason-numbered undeclared_element = refl
reason-numbered bad_content = refl
reason-numbered over_node_limit = refl
reason-numbered bad_extract = refl
reason-numbered too_few_cells = refl

-- a number has one reason
pub number-injective : (q r : Reason) → number_of q ≡ number_of r → q ≡ r
number-injective q r e = sym (reason-numbered q) ∙ ap reason_of e ∙ reason-numbered r

-- 1 is the least number, and 2 comes before all others
number-from-1 : (r : Reason) → 1 ≤ number_of r
number-from-1 r =
    let n : (number_of r ≡ 0 → ⊥) = λ e.
    let q : too_few_cells ≡ r = ap reason_of (sym e) ∙ reason-numbered r in
    omega (arith, ap number_of q, e) in
    omega arith

pub number-from-2 : (r : Reason) → (r ≡ bad_record → ⊥) → 2 ≤ number_of r
number-from-2 r n =
    let m : (number_of r ≡ 1 → ⊥) = λ e. n (number-injective r bad_record e) in
    omega (arith, number-from-1 r)

-- the first refusal is one
pub first-once : (Applies : Reason → ℕ → Type 0) {q r : Reason} {j k : ℕ} → IsFirst Applies q j → IsFirst Applies r k → (q ≡ r) × (j ≡ k)
first-once Applies {q} {r} {j} {k} x y =
    let e : q ≡ r = number-injective q r (omega (arith, x.lowest r k y.applies, y.lowest q j x.applies)) in
    (e, omega (arith, x.earliest k (subst (λ (p : Reason). Applies p k) (sym e) y.applies), y.earliest j (subst (λ (p : Reason). Applies p j) e x.applies)))

-- So the conditions determine a reader's outcome, where they determine what a text gives.
pub judged-once : {A : Type 0} (Applies : Reason → ℕ → Type 0) (Gives : A → Type 0) → ((a b : A) → Gives a → Gives b → a ≡ b) → {o p : Outcome A} → Judged Applies Gives o
    → Judged Applies Gives p → o ≡ p
judged-once Applies Gives same (turned-back {f = f} x) (turned-back {f = g} y) =
    let e = first-once Applies x y in
    ap refused (ap₂ at e.0 e.1)
judged-once Applies Gives same (turned-back {f = f} x) (taken n g) = absurd (n f.reason f.place x.applies)
judged-once Applies Gives same (taken n g) (turned-back {f = f} x) = absurd (n f.reason f.place x.applies)
judged-once Applies Gives same (taken {a = a} n g) (taken {a = b} m h) = ap accepted (same a b g h)

-- lists of refusals put together
module _ (Applies : Reason → ℕ → Type 0) where
  pub found-append : (fs gs : List Refusal) → Found Applies fs → Found Applies gs → Found Applies (fs ++ gs)
  found-append fs gs x y f i = ⊎_elim (x f) (y f) (append_cases fs i)

  pub found_all : (r : Reason) (ks : List ℕ) → ((k : ℕ) → In k ks → Applies r k) → Found Applies (all_at r ks)
  found_all r ks x f i =
      let m = map-in (at r) ks i in
      subst (λ (g : Refusal). Applies g.reason g.place) (sym m.2) (x m.0 m.1)

  pub found-given : (b : Bool) (g : Refusal) → (T b → Applies g.reason g.place) → Found Applies (given b g)
  found-given true g x f (here e) = subst (λ (h : Refusal). Applies h.reason h.place) (sym e) (x tt)
  found-given false g x f i = elim i [ ]
  found-given true g x f (there x6) = elim x6 [ ]

pub listed-left : (fs gs : List Refusal) {r : Reason} {k : ℕ} → Listed fs r k → Listed (fs ++ gs) r k
listed-left fs gs (j, i, l) = (j, append_left gs i, l)

pub listed-right : (fs gs : List Refusal) {r : Reason} {k : ℕ} → Listed gs r k → Listed (fs ++ gs) r k
listed-right fs gs (j, i, l) = (j, append_right fs i, l)

pub listed-all : (r : Reason) {ks : List ℕ} {k : ℕ} → In k ks → Listed (all_at r ks) r k
listed-all r {k} i = (k, in_map (at r) i, omega arith)

pub listed-given : (b : Bool) (r : Reason) (k : ℕ) → T b → Listed (given b (at r k)) r k
listed-given true r k t = (k, here refl, omega arith)
listed-given false r k t = absurd t
