-- The definition's run over a journal, told by places: from one place to another with the event of the last byte alone.
use Rattle.std.specs.Prelude.{Bool, true, false, cond, List, [], ◌++◌, ◌≡◌, length, drop, get_or}
use Rattle.std.proofs.Math.Path.{refl, ap}
use Rattle.std.proofs.Common.{sym, ◌∙◌, le_refl, drop_of_length-le, drop-cons}
use Prim.Native.Nat.{ℕ, zero, suc, ◌<◌}
use Rattle.journal_spec.specs.Builder.{Building, building, on_event}
use Rattle.journal_spec.specs.Reading.{Machine, initial, step, run}
use Rattle.schema_spec.specs.Schemas.{Schema}
use Rattle.text_spec.specs.Bytes.{is_foreign}
use Rattle.text_spec.specs.Lists.{is_none}
use Rattle.text_spec.specs.Refusals.{Refusal, at, given, bad_byte}
use Rattle.token_spec.specs.Lexer.{Mode, between, Event, quiet, Lexed, tells, lex}

-- from the place k and the mode m: some bytes, with no event but that of the last
pub data Passes (text : List ℕ) (k : ℕ) (m : Mode) : ℕ → Mode → Event → Type 0 where
  stays : Passes text k m k m quiet
  reads : {j : ℕ} {n o : Mode} {e : Event} → Passes text k m j n quiet → j < length text → lex n j (get_or text j 0) ≡ tells o e
      → Passes text k m (suc j) o e

-- refusal 3 for each foreign byte below a place, the last first
unfoldable pub foreigns_below : List ℕ → ℕ → List Refusal
foreigns_below text zero = []
foreigns_below text (suc j) = given (is_foreign (get_or text j 0)) (at bad_byte j) ++ foreigns_below text j

-- the definition's machine after k bytes of a text
abbrev pub machine_at : List ℕ → ℕ → Mode → Building → Machine
machine_at text k m b = record { place = k; mode = m; built = b; foreign = foreigns_below text k }

-- nothing is built yet
abbrev pub nothing_built : Building
nothing_built = building [] false [] [] 0

-- reading the whole text is reading on from here
pub record Reached (s : Schema) (text : List ℕ) (k : ℕ) (m : Mode) (b : Building) : Type 0 where
  pub same : run s initial text ≡ run s (machine_at text k m b) (drop k text)

pub quiet-builds : (s : Schema) (b : Building) → on_event s quiet b ≡ b
unfolding on_event
quiet-builds s b = pick (is_none b.broken)
  where
    pick : (t : Bool) → cond t b b ≡ b
    pick true = refl
    pick false = refl

module _ (s : Schema) (text : List ℕ) where
  step-at : (j : ℕ) (n o : Mode) (e : Event) (b : Building) → lex n j (get_or text j 0) ≡ tells o e
      → step s (machine_at text j n b) (get_or text j 0) ≡ machine_at text (suc j) o (on_event s e b)
  unfolding step foreigns_below
  step-at j n o e b q =
      ap
      (λ (x : Lexed).
      record {
        place = suc j;
        mode = x.mode;
        built = on_event s x.event b;
        foreign = given (is_foreign (get_or text j 0)) (at bad_byte j) ++ foreigns_below text j;
      })
      q

  run-passes : {k : ℕ} {m : Mode} {j : ℕ} {n : Mode} {e : Event} → Passes text k m j n e → (b : Building)
      → run s (machine_at text k m b) (drop k text) ≡ run s (machine_at text j n (on_event s e b)) (drop j text)
  unfolding run
  run-passes {k} {m} stays b = ap (λ (x : Building). run s (machine_at text k m x) (drop k text)) (sym (quiet-builds s b))
  run-passes (reads {j = j} {n = n} {o = o} {e = e} w h q) b =
      run-passes w b
      ∙ ap (λ (x : Building). run s (machine_at text j n x) (drop j text)) (quiet-builds s b)
      ∙ ap (run s (machine_at text j n b)) (drop-cons text j 0 h)
      ∙ ap (λ (x : Machine). run s x (drop (suc j) text)) (step-at j n o e b q)

  pub reached-first : Reached s text 0 between nothing_built
  unfolding foreigns_below
  reached-first = record { same = refl }

-- where the lexer passes, so does the reader: the last event is all that is built on the way
pub reached-on : {s : Schema} {text : List ℕ} {k j : ℕ} {m n : Mode} {e : Event} {b : Building} → Reached s text k m b → Passes text k m j n e
    → Reached s text j n (on_event s e b)
reached-on {s} {text} {b = b} r w = record { same = r.same ∙ run-passes s text w b }

-- one byte
pub passes-one : {text : List ℕ} {k : ℕ} {m n : Mode} {e : Event} → k < length text → lex m k (get_or text k 0) ≡ tells n e → Passes text k m (suc k) n e
passes-one h q = reads stays h q

-- the end
pub reached-last : {s : Schema} {text : List ℕ} {k : ℕ} {m : Mode} {b : Building} → Reached s text k m b → k ≡ length text
    → run s initial text ≡ machine_at text (length text) m b
unfolding run
reached-last {s} {text} {k} {m} {b} r e =
    r.same ∙ ap (λ (j : ℕ). run s (machine_at text j m b) (drop j text)) e ∙ ap (run s (machine_at text (length text) m b)) (drop_of_length-le text (le_refl _))
