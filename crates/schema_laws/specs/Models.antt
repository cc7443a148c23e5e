-- The computing form of a content model, which keeps marks on its names, decides what fits.
use Rattle.std.specs.Prelude.{Bool, true, false, ◌&&◌, ◌||◌, List, [], ◌∷◌, ◌++◌, ◌⊎◌, ◌↔◌, ◌≡◌, refl, ℕ, T, eqb}
use Rattle.std.proofs.Common.{inl, inr, ⊎_elim, sym, ap, subst, ◌∙◌, eqb→eq}
use Rattle.std.proofs.Math.Dec.{eqb_refl}
use Rattle.schema_spec.specs.Models.{Particle, named, sequence, choice, repeated, rename_in, Fits, one, both, left, right, absent, once, again, Position, unmarked, nullable, final, shift, amid, started, complete, advance_all, fits}
use Rattle.text_laws.specs.Tests.{or_left, or_right, or_cases, and_intro, and_cases, true_of, never}

-- the particle without its marks
abbrev plain : Particle Position → Particle ℕ
plain p = rename_in (λ x. x.name) p

-- these children may follow a marked name to the end of the particle
data Goes : Particle Position → List ℕ → Type 0 where
  at_mark : {x : Position} → T x.marked → Goes (named x) []
  in-first : {p q : Particle Position} {u v : List ℕ} → Goes p u → Fits (plain q) v → Goes (sequence p q) (u ++ v)
  in-second : {p q : Particle Position} {w : List ℕ} → Goes q w → Goes (sequence p q) w
  in_left : {p q : Particle Position} {w : List ℕ} → Goes p w → Goes (choice p q) w
  in_right : {p q : Particle Position} {w : List ℕ} → Goes q w → Goes (choice p q) w
  last : {m n : Bool} {p : Particle Position} {w : List ℕ} → Goes p w → Goes (repeated m n p) w
  more : {n : Bool} {p : Particle Position} {u v : List ℕ} → Goes p u → Fits (repeated true n (plain p)) v → Goes (repeated true n p) (u ++ v)

filled : {A : Type 0} {a : ℕ} {w : List ℕ} → a ∷ w ≡ [] → A
filled e = never (cc)

-- the empty list of children
nullable-fits : (r : Particle Position) → T (nullable r) → Fits (plain r) []
nullable-fits (named x) t = absurd t
nullable-fits (sequence p q) t =
    let h = and_cases (nullable p) (nullable q) t in
    both (nullable-fits p h.0) (nullable-fits q h.1)
nullable-fits (choice p q) t = ⊎_elim (λ h. left (nullable-fits p h)) (λ h. right (nullable-fits q h)) (or_cases (nullable p) (nullable q) t)
nullable-fits (repeated m true p) t = absent
nullable-fits (repeated m false p) t = once (nullable-fits p t)

repeated-nothing : {m n : Bool} {p : Particle ℕ} {x : List ℕ} → Fits (repeated m n p) x → x ≡ [] → T n ⊎ Fits p []
repeated-nothing absent e = inl tt
repeated-nothing (once {p = p} f) e = inr (subst (λ (x : List ℕ). Fits p x) e f)
repeated-nothing (again {u = []} f g) e = inr f
repeated-nothing (again {u = c ∷ u} f g) e = filled e

fits-nullable : (r : Particle Position) {x : List ℕ} → Fits (plain r) x → x ≡ [] → T (nullable r)
fits-nullable (named x) one e = filled e
fits-nullable (sequence p q) (both {u = []} f g) e = and_intro (nullable p) (nullable q) (fits-nullable p f refl) (fits-nullable q g e)
fits-nullable (sequence p q) (both {u = c ∷ u} f g) e = filled e
fits-nullable (choice p q) (left f) e = or_left (nullable p) (nullable q) (fits-nullable p f e)
fits-nullable (choice p q) (right g) e = or_right (nullable p) (nullable q) (fits-nullable q g e)
fits-nullable (repeated m n p) f e =
    ⊎_elim (λ t. or_left n (nullable p) t) (λ g. or_right n (nullable p) (fits-nullable p g refl)) (repeated-nothing f e)

final-goes : (r : Particle Position) → T (final r) → Goes r []
final-goes (named x) t = at_mark t
final-goes (sequence p q) t =
    ⊎_elim (λ h. in-second (final-goes q h))
    (λ h.
    let k = and_cases (final p) (nullable q) h in
    in-first (final-goes p k.0) (nullable-fits q k.1)) (or_cases (final q) (final p && nullable q) t)
final-goes (choice p q) t = ⊎_elim (λ h. in_left (final-goes p h)) (λ h. in_right (final-goes q h)) (or_cases (final p) (final q) t)
final-goes (repeated m n p) t = last (final-goes p t)

goes-final : {r : Particle Position} {x : List ℕ} → Goes r x → x ≡ [] → T (final r)
goes-final (at_mark t) e = t
goes-final (in-first {p = p} {q = q} {u = []} f g) e =
    or_right (final q) (final p && nullable q) (and_intro (final p) (nullable q) (goes-final f refl) (fits-nullable q g e))
goes-final (in-first {u = c ∷ u} f g) e = filled e
goes-final (in-second {p = p} {q = q} g) e = or_left (final q) (final p && nullable q) (goes-final g e)
goes-final (in_left {p = p} {q = q} f) e = or_left (final p) (final q) (goes-final f e)
goes-final (in_right {p = p} {q = q} g) e = or_right (final p) (final q) (goes-final g e)
goes-final (last f) e = goes-final f e
goes-final (more {u = []} f g) e = goes-final f refl
goes-final (more {u = c ∷ u} f g) e = filled e

-- marks are nothing to what fits
plain-shift : (b : Bool) (r : Particle Position) (a : ℕ) → plain (shift b r a) ≡ plain r
plain-shift b (named x) a = refl
plain-shift b (sequence p q) a =
    ap (λ (z : Particle ℕ). sequence z (plain (shift (final p || (b && nullable p)) q a))) (plain-shift b p a)
    ∙ ap (λ (z : Particle ℕ). sequence (plain p) z) (plain-shift (final p || (b && nullable p)) q a)
plain-shift b (choice p q) a =
    ap (λ (z : Particle ℕ). choice z (plain (shift b q a))) (plain-shift b p a) ∙ ap (λ (z : Particle ℕ). choice (plain p) z) (plain-shift b q a)
plain-shift b (repeated m n p) a = ap (λ (z : Particle ℕ). repeated m n z) (plain-shift (b || (m && final p)) p a)

plain-unmarked : (p : Particle ℕ) → plain (unmarked p) ≡ p
plain-unmarked (named a) = refl
plain-unmarked (sequence p q) = ap (λ (z : Particle ℕ). sequence z (plain (unmarked q))) (plain-unmarked p) ∙ ap (λ (z : Particle ℕ). sequence p z) (plain-unmarked q)
plain-unmarked (choice p q) = ap (λ (z : Particle ℕ). choice z (plain (unmarked q))) (plain-unmarked p) ∙ ap (λ (z : Particle ℕ). choice p z) (plain-unmarked q)
plain-unmarked (repeated m n p) = ap (λ (z : Particle ℕ). repeated m n z) (plain-unmarked p)

after-shift : (b : Bool) (r : Particle Position) (a : ℕ) {w : List ℕ} → Fits (plain r) w → Fits (plain (shift b r a)) w
after-shift b r a {w} f = subst (λ (z : Particle ℕ). Fits z w) (sym (plain-shift b r a)) f

before-shift : (b : Bool) (r : Particle Position) (a : ℕ) {w : List ℕ} → Fits (plain (shift b r a)) w → Fits (plain r) w
before-shift b r a {w} f = subst (λ (z : Particle ℕ). Fits z w) (plain-shift b r a) f

-- one child more
by_flag : {b c : Bool} (r : Particle Position) (a : ℕ) {w : List ℕ} → b ≡ c → Goes (shift b r a) w → Goes (shift c r a) w
by_flag r a {w} e g = subst (λ (t : Bool). Goes (shift t r a) w) e g

goes_with : {r : Particle Position} {v w : List ℕ} → v ≡ w → Goes r v → Goes r w
goes_with {r} e g = subst (λ (x : List ℕ). Goes r x) e g

begin-repeated : {m n : Bool} (p : Particle Position) (a : ℕ) (w : List ℕ) → ((x : List ℕ) → Fits (plain p) x → (v : List ℕ) → x ≡ a ∷ v → Goes (shift true p a) v)
    → {x : List ℕ} → Fits (repeated m n (plain p)) x → x ≡ a ∷ w → Goes (repeated m n (shift true p a)) w
begin-repeated {m} {n} p a w h f e = at m n f e refl
  where
    at : (m n : Bool) {q : Particle ℕ} {x : List ℕ} → Fits (repeated m n q) x → x ≡ a ∷ w → q ≡ plain p → Goes (repeated m n (shift true p a)) w
    at m n absent e s = filled (sym e)
    at m n (once {w = x} f) e s = last (h x (subst (λ (z : Particle ℕ). Fits z x) s f) w e)
    at m n (again {u = []} f g) e s = at true n g e s
    at m n (again {u = c ∷ u} {v = v} f g) e s =
        let z : c ∷ u ≡ a ∷ u = cc in
        let k : u ++ v ≡ w = cc in
        goes_with k (more (h (c ∷ u) (subst (λ (y : Particle ℕ). Fits y (c ∷ u)) s f) u z)
        (subst (λ (y : Particle ℕ). Fits (repeated true n y) v) (s ∙ sym (plain-shift true p a)) g))

begin : (r : Particle Position) {x : List ℕ} → Fits (plain r) x → (a : ℕ) (w : List ℕ) → x ≡ a ∷ w → Goes (shift true r a) w
begin (named x) one a w e =
    let h : a ≡ x.name = cc in
    let k : [] ≡ w = cc in
    goes_with k (at_mark (subst (λ (c : ℕ). T (eqb a c)) h (eqb_refl a)))
begin (sequence p q) (both {u = []} f g) a w e =
    in-second (by_flag q a (sym (true_of (final p || nullable p) (or_right (final p) (nullable p) (fits-nullable p f refl)))) (begin q g a w e))
begin (sequence p q) (both {u = c ∷ u} {v = v} f g) a w e =
    let h : c ∷ u ≡ a ∷ u = cc in
    let k : u ++ v ≡ w = cc in
    goes_with k (in-first (begin p f a u h) (after-shift (final p || (true && nullable p)) q a g))
begin (choice p q) (left f) a w e = in_left (begin p f a w e)
begin (choice p q) (right g) a w e = in_right (begin q g a w e)
begin (repeated m n p) f a w e = begin-repeated p a w (λ x g v z. begin p g a v z) f e

go_on : {r : Particle Position} {x : List ℕ} → Goes r x → (b : Bool) (a : ℕ) (w : List ℕ) → x ≡ a ∷ w → Goes (shift b r a) w
go_on (at_mark t) b a w e = filled (sym e)
go_on (in-first {p = p} {q = q} {u = []} f g) b a w e =
    in-second (by_flag q a (sym (true_of (final p || (b && nullable p)) (or_left (final p) (b && nullable p) (goes-final f refl)))) (begin q g a w e))
go_on (in-first {p = p} {q = q} {u = c ∷ u} {v = v} f g) b a w e =
    let h : c ∷ u ≡ a ∷ u = cc in
    let k : u ++ v ≡ w = cc in
    goes_with k (in-first (go_on f b a u h) (after-shift (final p || (b && nullable p)) q a g))
go_on (in-second {p = p} g) b a w e = in-second (go_on g (final p || (b && nullable p)) a w e)
go_on (in_left f) b a w e = in_left (go_on f b a w e)
go_on (in_right g) b a w e = in_right (go_on g b a w e)
go_on (last {m = m} {p = p} f) b a w e = last (go_on f (b || (m && final p)) a w e)
go_on (more {n = n} {p = p} {u = []} f g) b a w e =
    subst (λ (t : Bool). Goes (repeated true n (shift t p a)) w) (sym (true_of (b || final p) (or_right b (final p) (goes-final f refl))))
    (begin-repeated p a w (λ x k v z. begin p k a v z) g e)
go_on (more {n = n} {p = p} {u = c ∷ u} {v = v} f g) b a w e =
    let h : c ∷ u ≡ a ∷ u = cc in
    let k : u ++ v ≡ w = cc in
    goes_with k
    (more (go_on f (b || final p) a u h) (subst (λ (y : Particle ℕ). Fits (repeated true n y) v) (sym (plain-shift (b || final p) p a)) g))

-- where a mark comes from: one before it, or the particle begins here
Came : Bool → Particle Position → List ℕ → Type 0
Came b r x = Goes r x ⊎ (T b × Fits (plain r) x)

at_name : {x : Position} {w : List ℕ} → Goes (named x) w → T x.marked × (w ≡ [])
at_name (at_mark t) = (t, refl)

came-repeated : (b m n : Bool) (p p' : Particle Position) (a : ℕ) {w : List ℕ} → plain p' ≡ plain p → ((x : List ℕ) → Goes p' x → Came (b || (m && final p)) p (a ∷ x))
    → Goes (repeated m n p') w → Came b (repeated m n p) (a ∷ w)
unfolding Came
came-repeated b true n p p' a to ih (last {w = w} f) =
    ⊎_elim (λ h. inl (last h))
    (λ h. ⊎_elim (λ t. inr (t, once h.1)) (λ t. inl (more (final-goes p t) (once h.1))) (or_cases b (final p) h.0)) (ih w f)
came-repeated b true n p p' a to ih (more {u = u} {v = v} f g) =
    let k = subst (λ (y : Particle ℕ). Fits (repeated true n y) v) to g in
    ⊎_elim (λ h. inl (more h k))
    (λ h. ⊎_elim (λ t. inr (t, again h.1 k)) (λ t. inl (more (final-goes p t) (again h.1 k))) (or_cases b (final p) h.0)) (ih u f)
came-repeated b false n p p' a to ih (last {w = w} f) =
    ⊎_elim (λ h. inl (last h)) (λ h. ⊎_elim (λ t. inr (t, once h.1)) (λ t. absurd t) (or_cases b false h.0)) (ih w f)

came : (b : Bool) (r : Particle Position) (a : ℕ) {w : List ℕ} → Goes (shift b r a) w → Came b r (a ∷ w)
unfolding Came
came b (named x) a {w} g =
    let h = at_name g in
    let k = and_cases b (eqb a x.name) h.0 in
    let e : a ≡ x.name = eqb→eq a x.name k.1 in
    let z : x.name ∷ [] ≡ a ∷ w = cc h.1 in
    inr (k.0, subst (λ (y : List ℕ). Fits (named x.name) y) z one)
came b (sequence p q) a (in-first f g) =
    let k = before-shift (final p || (b && nullable p)) q a g in
    ⊎_elim (λ h. inl (in-first h k)) (λ h. inr (h.0, both h.1 k)) (came b p a f)
came b (sequence p q) a (in-second g) =
    ⊎_elim (λ h. inl (in-second h))
    (λ h. ⊎_elim (λ t. inl (in-first (final-goes p t) h.1))
    (λ t.
    let k = and_cases b (nullable p) t in
    inr (k.0, both (nullable-fits p k.1) h.1)) (or_cases (final p) (b && nullable p) h.0))
    (came (final p || (b && nullable p)) q a g)
came b (choice p q) a (in_left f) = ⊎_elim (λ h. inl (in_left h)) (λ h. inr (h.0, left h.1)) (came b p a f)
came b (choice p q) a (in_right f) = ⊎_elim (λ h. inl (in_right h)) (λ h. inr (h.0, right h.1)) (came b q a f)
came b (repeated m n p) a g =
    let t = b || (m && final p) in
    came-repeated b m n p (shift t p a) a (plain-shift t p a) (λ x f. came t p a f) g

-- whole lists of children
goes-complete : (r : Particle Position) (w : List ℕ) → Goes r w → T (complete (advance_all (amid r) w))
goes-complete r [] g = goes-final g refl
goes-complete r (a ∷ w) g = goes-complete (shift false r a) w (go_on g false a w refl)

complete-goes : (r : Particle Position) (w : List ℕ) → T (complete (advance_all (amid r) w)) → Goes r w
unfolding Came
complete-goes r [] t = final-goes r t
complete-goes r (a ∷ w) t = ⊎_elim (λ h. h) (λ h. absurd h.0) (came false r a (complete-goes (shift false r a) w t))

unmarked-goes : (p : Particle ℕ) {w : List ℕ} → Goes (unmarked p) w → ⊥
unmarked-goes (named a) (at_mark t) = t
unmarked-goes (sequence p q) (in-first f g) = unmarked-goes p f
unmarked-goes (sequence p q) (in-second g) = unmarked-goes q g
unmarked-goes (choice p q) (in_left f) = unmarked-goes p f
unmarked-goes (choice p q) (in_right g) = unmarked-goes q g
unmarked-goes (repeated m n p) (last f) = unmarked-goes p f
unmarked-goes (repeated true n p) (more f g) = unmarked-goes p f

-- the children that the computing form takes are those that fit
pub fits-sound : (p : Particle ℕ) (w : List ℕ) → T (fits p w) → Fits p w
unfolding fits Came
fits-sound p w t = subst (λ (z : Particle ℕ). Fits z w) (plain-unmarked p) (taken w t)
  where
    taken : (w : List ℕ) → T (complete (advance_all (started p) w)) → Fits (plain (unmarked p)) w
    taken [] t = nullable-fits (unmarked p) t
    taken (a ∷ w) t =
        ⊎_elim (λ h. absurd (unmarked-goes p h)) (λ h. h.1) (came true (unmarked p) a (complete-goes (shift true (unmarked p) a) w t))

pub fits-complete : (p : Particle ℕ) (w : List ℕ) → Fits p w → T (fits p w)
unfolding fits
fits-complete p w f = takes w (subst (λ (z : Particle ℕ). Fits z w) (sym (plain-unmarked p)) f)
  where
    takes : (w : List ℕ) → Fits (plain (unmarked p)) w → T (complete (advance_all (started p) w))
    takes [] f = fits-nullable (unmarked p) f refl
    takes (a ∷ w) f = goes-complete (shift true (unmarked p) a) w (begin (unmarked p) f a w refl)

pub fits-decides : (p : Particle ℕ) (w : List ℕ) → T (fits p w) ↔ Fits p w
fits-decides p w = (fits-sound p w, fits-complete p w)
