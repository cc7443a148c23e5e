-- The one pass over the bytes as two: the bytes turned into events, then the events built into rows.
use Rattle.std.specs.Prelude.{Bool, true, false, cond, not, List, [], ◌∷◌, ◌++◌, ◌≡◌, refl, ℕ, suc, T}
use Rattle.std.proofs.Common.{sym, ap, ◌∙◌}
use Rattle.journal_spec.specs.Builder.{Building, on_start, on_end, on_event}
use Rattle.journal_spec.specs.Reading.{Machine, step, run, ended}
use Rattle.schema_spec.specs.Schemas.{Schema}
use Rattle.text_laws.specs.Lists.{append-empty}
use Rattle.text_laws.specs.Refusals.{given-free}
use Rattle.text_laws.specs.Tests.{and_intro, not-intro}
use Rattle.text_spec.specs.Bytes.{is_foreign}
use Rattle.text_spec.specs.Lists.{all_of, is_none}
use Rattle.text_spec.specs.Refusals.{Refusal, at, given, bad_byte}
use Rattle.token_laws.specs.Events.{told, events_from}
use Rattle.token_spec.specs.Lexer.{Event, quiet, starts, empties, ends, runs, lex, mode_after, last_event}

-- events built one after the other
unfoldable pub build : Schema → List Event → Building → Building
build s [] b = b
build s (e ∷ es) b = build s es (on_event s e b)

on_quiet : (s : Schema) (b : Building) → on_event s quiet b ≡ b
unfolding on_event
on_quiet s b = same (is_none b.broken)
  where
    same : (t : Bool) → cond t b b ≡ b
    same true = refl
    same false = refl

on-empties : (s : Schema) (n : List ℕ) (k : ℕ) (b : Building) → on_event s (empties n k) b ≡ on_event s (ends n k) (on_event s (starts n k) b)
unfolding on_event
on-empties s n k b = by (is_none b.broken) refl
  where
    by : (t : Bool) → is_none b.broken ≡ t
        → cond t (cond (is_none (on_start s n k b).broken) (on_end n k (on_start s n k b)) (on_start s n k b)) b
        ≡ cond (is_none (cond t (on_start s n k b) b).broken) (on_end n k (cond t (on_start s n k b) b)) (cond t (on_start s n k b) b)
    by true e = refl
    by false e = rw e

build-told : (s : Schema) (e : Event) (es : List Event) (b : Building) → build s (told e es) b ≡ build s es (on_event s e b)
unfolding build
build-told s quiet es b = ap (build s es) (sym (on_quiet s b))
build-told s (starts n k) es b = refl
build-told s (empties n k) es b = ap (build s es) (sym (on-empties s n k b))
build-told s (ends n k) es b = refl
build-told s (runs r size) es b = refl

-- what is built at the end of the bytes is built from their events
pub ended-builds : (s : Schema) (m : Machine) (bs : List ℕ) → ended s (run s m bs) ≡ build s (events_from m.mode m.place bs) m.built
unfolding run step events_from build
ended-builds s m [] = sym (build-told s (last_event m.mode m.place) [] m.built)
ended-builds s m (b ∷ bs) =
    ended-builds s (step s m b) bs
    ∙ sym (build-told s (lex m.mode m.place b).event (events_from (lex m.mode m.place b).mode (suc m.place) bs) m.built)

pub run-mode : (s : Schema) (m : Machine) (bs : List ℕ) → (run s m bs).mode ≡ mode_after m.mode m.place bs
unfolding run step mode_after
run-mode s m [] = refl
run-mode s m (b ∷ bs) = run-mode s (step s m b) bs

given-last : (t : Bool) (f : Refusal) (fs : List Refusal) → given t f ++ fs ≡ [] → (T t → ⊥) × (fs ≡ [])
given-last t f fs e = (given-free t f (append-empty (given t f) fs e).0, (append-empty (given t f) fs e).1)

foreign-grows : (s : Schema) (m : Machine) (bs : List ℕ) → (run s m bs).foreign ≡ [] → m.foreign ≡ []
unfolding run step
foreign-grows s m [] e = e
foreign-grows s m (b ∷ bs) e = (given-last (is_foreign b) (at bad_byte m.place) m.foreign (foreign-grows s (step s m b) bs e)).1

-- a text in which 3 was not found has no foreign byte
pub none-foreign : (s : Schema) (m : Machine) (bs : List ℕ) → (run s m bs).foreign ≡ [] → T (all_of (λ b. not (is_foreign b)) bs)
unfolding run step
none-foreign s m [] e = tt
none-foreign s m (b ∷ bs) e =
    and_intro (not (is_foreign b)) (all_of (λ b. not (is_foreign b)) bs)
    (not-intro (is_foreign b) (given-last (is_foreign b) (at bad_byte m.place) m.foreign (foreign-grows s (step s m b) bs e)).0)
    (none-foreign s (step s m b) bs e)
