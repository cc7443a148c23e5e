-- The last entries of a context as one entry, and apart. The two contexts are equal by definition, but antt compares them anew at each entry before those, which
-- is dear in a long context.
use Rattle.std.specs.Prelude.{List, [], ◌∷◌, ◌++◌}
use seplogic.Ra.Ura.{Ura}
use base.Logic.{SProp, ent, id⊢, via, mono_r}
use types.Logic.{Logic}
use types.Kit.{Item, raw, ⋆, mean, pop, push}

module _ {M : Type 1} {𝓤 : Ura M} (𝓛 : Logic 𝓤) where
  as_one : (Δ Γ : List (Item 𝓤)) → ent 𝓤 (⋆ 𝓛 (Δ ++ Γ)) (⋆ 𝓛 (Δ ++ raw (⋆ 𝓛 Γ) ∷ []))
  as_one [] Γ = id⊢ 𝓤 (⋆ 𝓛 Γ)
  as_one (i ∷ Δ) Γ = via 𝓤 _ (pop 𝓛 i (Δ ++ Γ)) (via 𝓤 _ (mono_r 𝓤 (mean 𝓛 i) (as_one Δ Γ)) (push 𝓛 i (Δ ++ raw (⋆ 𝓛 Γ) ∷ [])))

  apart : (Δ Γ : List (Item 𝓤)) → ent 𝓤 (⋆ 𝓛 (Δ ++ raw (⋆ 𝓛 Γ) ∷ [])) (⋆ 𝓛 (Δ ++ Γ))
  apart [] Γ = id⊢ 𝓤 (⋆ 𝓛 Γ)
  apart (i ∷ Δ) Γ = via 𝓤 _ (pop 𝓛 i (Δ ++ raw (⋆ 𝓛 Γ) ∷ [])) (via 𝓤 _ (mono_r 𝓤 (mean 𝓛 i) (apart Δ Γ)) (push 𝓛 i (Δ ++ Γ)))

  module _ (Δ Γ : List (Item 𝓤)) {P : SProp 𝓤} where
    pub shuts : ent 𝓤 (⋆ 𝓛 (Δ ++ raw (⋆ 𝓛 Γ) ∷ [])) P → ent 𝓤 (⋆ 𝓛 (Δ ++ Γ)) P
    shuts h = via 𝓤 (⋆ 𝓛 (Δ ++ raw (⋆ 𝓛 Γ) ∷ [])) (as_one Δ Γ) h

    pub opens : ent 𝓤 (⋆ 𝓛 (Δ ++ Γ)) P → ent 𝓤 (⋆ 𝓛 (Δ ++ raw (⋆ 𝓛 Γ) ∷ [])) P
    opens h = via 𝓤 (⋆ 𝓛 (Δ ++ Γ)) (apart Δ Γ) h
