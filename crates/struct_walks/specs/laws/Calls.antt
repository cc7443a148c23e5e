-- A function that is walked: what a callee's contract says of the result and of what is lent to it, and two clauses of its own at the exit.
use Rattle.std.specs.Prelude.{List, [], ◌∷◌}
use seplogic.Ra.Ura.{Ura}
use Rattle.std.specs.Borrow.{Fml}
use base.Logic.{SProp, ent, emp, sep, via, id⊢, emp∗, mono∗, mono_r}
use contract.Monad.{fact, fact_i, fact_use}
use denote.Steps.{heard}
use types.Logic.{Logic}
use types.Kit.{Item, Goal, Seq, Soaks, ‵, raw, some, later, ◌⊛◌, mean, ◌$◌, move, use1, split, pick, await}

-- two facts, as two clauses say them
pub both-said : {M : Type 1} (𝓤 : Ura M) (φ ψ : Type 0) (X : SProp 𝓤) → ent 𝓤 (sep 𝓤 X (fact 𝓤 (φ × ψ))) (sep 𝓤 X (sep 𝓤 (fact 𝓤 φ) (fact 𝓤 ψ)))
both-said 𝓤 φ ψ X =
    mono_r 𝓤 X (fact_use 𝓤 (φ × ψ) (id⊢ 𝓤 (fact 𝓤 (φ × ψ))) (λ x. via 𝓤 (sep 𝓤 (emp 𝓤) (fact 𝓤 (φ × ψ))) (emp∗ 𝓤 (fact 𝓤 (φ × ψ))) (mono∗ 𝓤 (fact_i 𝓤 φ (emp 𝓤) x.0) (fact_i 𝓤 ψ (fact 𝓤 (φ × ψ)) x.1))))

module _ {M : Type 1} {𝓤 : Ura M} {𝓛 : Logic 𝓤} {K : Type 0} {Γ : List (Item 𝓤)} {G : Goal 𝓤 𝓛.H} where
  -- some result, what comes back with it, and what is said of both at exit
  pub answered : K → Soaks G → {R E : Type 0} {P : SProp 𝓤} (back : R → Item 𝓤) (ends : E → Fml) (said : R → E → Type 0) → ent 𝓤 P (mean 𝓛 (later (some (λ (r : R). back r ⊛ some (λ (e : E). ‵ (ends e) ⊛ raw (fact 𝓤 (said r e)))))))
      → ((r : R) (e : E) → said r e → Seq K 𝓛 (‵ (ends e) ∷ back r ∷ Γ) G) → Seq K 𝓛 (raw P ∷ Γ) G
  answered t soaks {R} {E} back ends said h k =
      use1 𝓛 (later (some (λ (r : R). back r ⊛ some (λ (e : E). ‵ (ends e) ⊛ raw (fact 𝓤 (said r e)))))) h $ await t soaks $ pick t (λ r. split t $ move t (1 ∷ []) $ pick t (λ e. split t $ move t (1 ∷ []) $ heard t (said r e) (λ x. k r e x)))
