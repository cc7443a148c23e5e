-- The locals of a function that is walked, as a context has them.
use Rattle.std.specs.Prelude.{List, [], ◌∷◌, ◌++◌, ℕ}
use seplogic.Ra.Ura.{Ura}
use base.Fml.{fdies, froom}
use mir.Syntax.{Ty}
use prog.Wp.{Env}
use types.Logic.{Logic}
use types.Kit.{Goal, Item, Step, step, ‵, ◌$◌, frees}
use types.Run.{free0, free1}

-- room for each
abbrev pub rooms : {M : Type 1} {𝓤 : Ura M} → List (Ty × ℕ) → List (Item 𝓤)
rooms [] = []
rooms (l ∷ ls) = ‵ (froom l.0 l.1 0) ∷ rooms ls

-- the right to free each
abbrev pub dies : {M : Type 1} {𝓤 : Ura M} → List (Ty × ℕ) → List (Item 𝓤)
dies [] = []
dies (l ∷ ls) = ‵ (fdies l.0 l.1) ∷ dies ls

abbrev pub both : {M : Type 1} {𝓤 : Ura M} → List (Ty × ℕ) → List (Item 𝓤)
both [] = []
both (l ∷ ls) = ‵ (froom l.0 l.1 0) ∷ ‵ (fdies l.0 l.1) ∷ both ls

-- what there is once each has been allocated
abbrev pub allocated : {M : Type 1} {𝓤 : Ura M} → List (Ty × ℕ) → List (Item 𝓤) → List (Item 𝓤)
allocated [] Γ = Γ
allocated (l ∷ ls) Γ = allocated ls (‵ (froom l.0 l.1 0) ∷ ‵ (fdies l.0 l.1) ∷ Γ)

pub free_all : {M : Type 1} {𝓤 : Ura M} {𝓛 : Logic 𝓤} {K : Type 0} {Γ : List (Item 𝓤)} {G : Goal 𝓤 𝓛.H} → K → (E : Env 𝓤 𝓛.H) → Step K 𝓛 Γ G (both E ++ Γ) (frees E G)
free_all t [] = free0 t
free_all t (l ∷ E) = step (λ s. free1 t $ free_all t E $ s)
