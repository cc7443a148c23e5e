-- Children that some more children complete to a content that fits are names of the model.
use Rattle.std.specs.Prelude.{Bool, true, false, ◌&&◌, ◌||◌, ◌⊎◌, ◌≡◌, refl, ℕ, T, eqb}
use mathlib.Core.List.Memᴰ.{append_left}
use mathlib.Core.List.Memᴰ.{append_right}
use mathlib.Core.List.Memᴰ.{head as here}
use mathlib.Core.List.{List, [], ◌∷◌, ◌++◌, Memᴰ as In}
use Rattle.std.proofs.Common.{inl, inr, ⊎_elim, eqb→eq}
use Rattle.schema_spec.specs.Models.{Particle, named, sequence, choice, repeated, uses, Position, unmarked, nullable, final, shift, Progress, at_start, amid, started, advance, complete, advance_all}
use Rattle.text_laws.specs.Tests.{or_left, or_right, or_cases, and_cases}

-- a name is marked
abbrev pub any_mark : Particle Position → Bool
any_mark (named x) = x.marked
any_mark (sequence p q) = any_mark p || any_mark q
any_mark (choice p q) = any_mark p || any_mark q
any_mark (repeated m n p) = any_mark p

-- the names of a particle with marks
abbrev pub names_in : Particle Position → List ℕ
names_in (named x) = x.name ∷ []
names_in (sequence p q) = names_in p ++ names_in q
names_in (choice p q) = names_in p ++ names_in q
names_in (repeated m n p) = names_in p

names-unmarked : (p : Particle ℕ) → names_in (unmarked p) ≡ uses p
names-unmarked (named a) = refl
names-unmarked (sequence p q) = rw (names-unmarked p, names-unmarked q)
names-unmarked (choice p q) = rw (names-unmarked p, names-unmarked q)
names-unmarked (repeated m n p) = names-unmarked p

names-shift : (b : Bool) (p : Particle Position) (a : ℕ) → names_in (shift b p a) ≡ names_in p
names-shift b (named x) a = refl
names-shift b (sequence p q) a = rw (names-shift b p a, names-shift (final p || (b && nullable p)) q a)
names-shift b (choice p q) a = rw (names-shift b p a, names-shift b q a)
names-shift b (repeated m n p) a = names-shift (b || (m && final p)) p a

final-marked : (p : Particle Position) → T (final p) → T (any_mark p)
final-marked (named x) t = t
final-marked (sequence p q) t =
    ⊎_elim (λ h. or_right (any_mark p) (any_mark q) (final-marked q h))
    (λ h. or_left (any_mark p) (any_mark q) (final-marked p (and_cases (final p) (nullable q) h).0)) (or_cases (final q) (final p && nullable q) t)
final-marked (choice p q) t =
    ⊎_elim (λ h. or_left (any_mark p) (any_mark q) (final-marked p h)) (λ h. or_right (any_mark p) (any_mark q) (final-marked q h)) (or_cases (final p) (final q) t)
final-marked (repeated m n p) t = final-marked p t

-- a mark after the child a comes from a beginning or from a mark before it
marked-before : (b : Bool) (p : Particle Position) (a : ℕ) → T (any_mark (shift b p a)) → T b ⊎ T (any_mark p)
marked-before b (named x) a t = inl (and_cases b (eqb a x.name) t).0
marked-before b (sequence p q) a t =
    ⊎_elim (λ h. keep (marked-before b p a h)) (λ h. later (marked-before (final p || (b && nullable p)) q a h))
    (or_cases (any_mark (shift b p a)) (any_mark (shift (final p || (b && nullable p)) q a)) t)
  where
    keep : T b ⊎ T (any_mark p) → T b ⊎ T (any_mark p || any_mark q)
    keep (inl h) = inl h
    keep (inr h) = inr (or_left (any_mark p) (any_mark q) h)

    begun : T (final p) ⊎ T (b && nullable p) → T b ⊎ T (any_mark p || any_mark q)
    begun (inl h) = inr (or_left (any_mark p) (any_mark q) (final-marked p h))
    begun (inr h) = inl (and_cases b (nullable p) h).0

    later : T (final p || (b && nullable p)) ⊎ T (any_mark q) → T b ⊎ T (any_mark p || any_mark q)
    later (inl h) = begun (or_cases (final p) (b && nullable p) h)
    later (inr h) = inr (or_right (any_mark p) (any_mark q) h)
marked-before b (choice p q) a t =
    ⊎_elim (λ h. left (marked-before b p a h)) (λ h. right (marked-before b q a h)) (or_cases (any_mark (shift b p a)) (any_mark (shift b q a)) t)
  where
    left : T b ⊎ T (any_mark p) → T b ⊎ T (any_mark p || any_mark q)
    left (inl h) = inl h
    left (inr h) = inr (or_left (any_mark p) (any_mark q) h)

    right : T b ⊎ T (any_mark q) → T b ⊎ T (any_mark p || any_mark q)
    right (inl h) = inl h
    right (inr h) = inr (or_right (any_mark p) (any_mark q) h)
marked-before b (repeated m n p) a t = again (marked-before (b || (m && final p)) p a t)
  where
    begun : T b ⊎ T (m && final p) → T b ⊎ T (any_mark p)
    begun (inl h) = inl h
    begun (inr h) = inr (final-marked p (and_cases m (final p) h).1)

    again : T (b || (m && final p)) ⊎ T (any_mark p) → T b ⊎ T (any_mark p)
    again (inl h) = begun (or_cases b (m && final p) h)
    again (inr h) = inr h

-- a mark after the child a is on that name
marked-name : (b : Bool) (p : Particle Position) (a : ℕ) → T (any_mark (shift b p a)) → In a (names_in p)
marked-name b (named x) a t = here (eqb→eq a x.name (and_cases b (eqb a x.name) t).1)
marked-name b (sequence p q) a t =
    ⊎_elim (λ h. append_left (names_in q) (marked-name b p a h)) (λ h. append_right (names_in p) (marked-name (final p || (b && nullable p)) q a h))
    (or_cases (any_mark (shift b p a)) (any_mark (shift (final p || (b && nullable p)) q a)) t)
marked-name b (choice p q) a t =
    ⊎_elim (λ h. append_left (names_in q) (marked-name b p a h)) (λ h. append_right (names_in p) (marked-name b q a h))
    (or_cases (any_mark (shift b p a)) (any_mark (shift b q a)) t)
marked-name b (repeated m n p) a t = marked-name (b || (m && final p)) p a t

-- what can still be completed has a mark
completed-marked : (p : Particle Position) (w : List ℕ) → T (complete (advance_all (amid p) w)) → T (any_mark p)
completed-marked p [] t = final-marked p t
completed-marked p (a ∷ w) t = ⊎_elim (λ h. absurd h) (λ h. h) (marked-before false p a (completed-marked (shift false p a) w t))

abbrev pub names_of : Progress → List ℕ
names_of (at_start p) = names_in p
names_of (amid p) = names_in p

pub started-names : (p : Particle ℕ) → names_of (started p) ≡ uses p
started-names p = names-unmarked p

pub advance-names : (q : Progress) (a : ℕ) → names_of (advance q a) ≡ names_of q
advance-names (at_start p) a = names-shift true p a
advance-names (amid p) a = names-shift false p a

-- a child after which the content can still come to fit is one of the model's names
pub completed-name : (q : Progress) (a : ℕ) (w : List ℕ) → T (complete (advance_all (advance q a) w)) → In a (names_of q)
completed-name (at_start p) a w t = marked-name true p a (completed-marked (shift true p a) w t)
completed-name (amid p) a w t = marked-name false p a (completed-marked (shift false p a) w t)
