-- Tags by the numbers of their events.
use Rattle.std.specs.Prelude.{cond, List, ◌≡◌, refl, ℕ, zero, suc, eqb}
use Rattle.std.proofs.Common.{arith, ne_eqb}
use Rattle.journal_builder.specs.Events.{start_event, tag_event}
use Rattle.journal_lexer.specs.state.Numbers.{event_of}
use Rattle.token_spec.specs.Lexer.{Event, ends}

-- a tag, by the number of its event
abbrev pub tag_event_by : ℕ → List ℕ → ℕ → Event
tag_event_by event n k = cond (eqb event 3) (ends n k) (start_event (eqb event 2) n k)

-- it is the tag of the event that the number is
pub tag-event-number : (event : ℕ) (n : List ℕ) (k : ℕ) → tag_event (event_of event) n k ≡ tag_event_by event n k
tag-event-number zero n k = refl
tag-event-number (suc zero) n k = refl
tag-event-number (suc (suc zero)) n k = refl
tag-event-number (suc (suc (suc zero))) n k = refl
tag-event-number (suc (suc (suc (suc zero)))) n k = refl
tag-event-number (suc (suc (suc (suc (suc e))))) n k =
    rw (
      ne_eqb (suc (suc (suc (suc (suc e))))) 0 (λ z. omega arith),
      ne_eqb (suc (suc (suc (suc (suc e))))) 2 (λ z. omega arith),
      ne_eqb (suc (suc (suc (suc (suc e))))) 3 (λ z. omega arith),
      ne_eqb (suc (suc (suc (suc (suc e))))) 4 (λ z. omega arith),
    )
    refl
