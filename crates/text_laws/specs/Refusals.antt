-- Laws of the order of refusals: the first of what was found, and what an accepted text was free of.
use Rattle.std.specs.Prelude.{Bool, true, false, ◌≡◌, refl, T}
use mathlib.Core.List.Memᴰ.{head as here}
use mathlib.Core.List.Memᴰ.{tail as there}
use mathlib.Core.List.{List, [], ◌∷◌, Memᴰ as In}
use Rattle.text_laws.specs.Tests.{never}
use Rattle.text_spec.specs.Refusals.{Refusal, given, first_of, accepted, judged}

-- what an accepted text gives, and that nothing was found against it
pub judged-accepted : {A : Type 0} (fs : List Refusal) (a b : A) → judged fs a ≡ accepted b → (fs ≡ []) × (a ≡ b)
unfolding first_of
judged-accepted [] a b e = (refl, cc)
judged-accepted (f ∷ fs) a b e =
    never (cc)

pub judged-free : {A : Type 0} (fs : List Refusal) (a : A) → fs ≡ [] → judged fs a ≡ accepted a
unfolding first_of
judged-free fs a e = rw e

-- a test found nothing only if it failed
pub given-free : (b : Bool) (f : Refusal) → given b f ≡ [] → T b → ⊥
given-free true f e t =
    never (cc)
given-free false f e t = t

pub in-given : (b : Bool) {f g : Refusal} → T b → g ≡ f → In g (given b f)
in-given true t e = here e
in-given false t e = absurd t

pub given-in : (b : Bool) (f g : Refusal) → In g (given b f) → T b × (g ≡ f)
given-in true f g (here e) = (tt, e)
given-in true f g (there i) = elim i [ ]
given-in false f g i = elim i [ ]
