-- The machine goes along each chain of steps, and what it reads without a fault is such a chain.
use Rattle.std.specs.Prelude.{false, List, [], ◌∷◌, ◌≡◌, refl, ℕ, suc}
use Rattle.std.proofs.Common.{ap, ◌∙◌}
use Rattle.schema_laws.specs.Machine.{schema-dead}
use Rattle.schema_laws.specs.reading.Steps.{Live, dies, goes, live, goes_step, Transitions, stay, go}
use Rattle.schema_spec.specs.Machine.{State, is_dead, step, schema_machine}
use Rattle.text_laws.specs.Machines.{final, dead-final}
use Rattle.text_laws.specs.Tests.{never}

pub path-final : {q r : State} {k : ℕ} {w : List ℕ} → Transitions q k w r → final schema_machine q w k ≡ r
path-final stay = refl
path-final {k} (go {w = w} g p) = ap (λ (s : State). final schema_machine s w (suc k)) (goes_step g) ∙ path-final p

live_on : {q r : State} {k b : ℕ} (w : List ℕ) → Live q k b r → is_dead (final schema_machine r w (suc k)) ≡ false
    → Transitions r (suc k) w (final schema_machine r w (suc k)) → Transitions q k (b ∷ w) (final schema_machine r w (suc k))
live_on {k} w dies l p =
    let d = ap is_dead (dead-final schema-dead w (suc k)) in
    never (cc)
live_on w (goes g) l p = go g p

pub live-path : (q : State) (k : ℕ) (w : List ℕ) → is_dead (final schema_machine q w k) ≡ false → Transitions q k w (final schema_machine q w k)
live-path q k [] l = stay
live-path q k (b ∷ w) l = live_on w (live q k b) l (live-path (step q k b) (suc k) w l)
