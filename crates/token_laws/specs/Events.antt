-- The events that the lexer tells of bytes, and how they follow on one another.
use Rattle.std.specs.Prelude.{Bool, true, false, cond, ◌&&◌, List, [], ◌∷◌, ◌++◌, ◌≡◌, refl, ℕ, suc, ◌+◌, ◌-◌, ◌≤◌, ◌<◌, eqb, leb, ltb, length}
use Rattle.std.proofs.Math.Option.{none}
use Rattle.std.proofs.Common.{arith}
use Rattle.text_spec.specs.Bytes.{is_blank, starts_name, continues_name}
use Rattle.text_spec.specs.Limits.{max_name_bytes}
use Rattle.text_spec.specs.Lists.{any_of, is_empty}
use Rattle.text_spec.specs.Machines.{longer}
use Rattle.token_spec.specs.Lexer.{Run, run, Mode, between, in_data, in_entity, opened, in_name, after_name, after_slash, ending, in_end_name, after_end_name, stopped, Event, quiet, starts, empties, ends, runs, Lexed, goes, solid_by, saved_by, tails_with, data_byte, entity_byte, tag_byte, end_tag_byte, lex, last_event}

-- an event in front of others; an empty tag is a start tag and an end tag at one place
abbrev pub told : Event → List Event → List Event
told quiet es = es
told (starts n k) es = starts n k ∷ es
told (empties n k) es = starts n k ∷ ends n k ∷ es
told (ends n k) es = ends n k ∷ es
told (runs r size) es = runs r size ∷ es

-- the events of the bytes from a place on, and of the end
unfoldable pub events_from : Mode → ℕ → List ℕ → List Event
events_from m k [] = told (last_event m k) []
events_from m k (b ∷ bs) = told (lex m k b).event (events_from (lex m k b).mode (suc k) bs)

-- what holds of each answer of a test, given that answer, holds of the answer
pub cond_cases : {A : Type 0} (P : A → Type 0) (b : Bool) (x y : A) → (b ≡ true → P x) → (b ≡ false → P y) → P (cond b x y)
cond_cases P true x y p q = p refl
cond_cases P false x y p q = q refl

pub cond_both : {A : Type 0} (P : A → Type 0) (b : Bool) (x y : A) → P x → P y → P (cond b x y)
cond_both P b x y p q = cond_cases P b x y (λ e. p) (λ e. q)

-- Tags, and runs of character data that save less than they have, so that some characters are left, no run directly after another; `true`: a run was last.
pub data InTurn : Bool → List Event → Type 0 where
  no_more : {t : Bool} → InTurn t []
  start-next : {t : Bool} {w : List ℕ} {k : ℕ} {es : List Event} → InTurn false es → InTurn t (starts w k ∷ es)
  end-next : {t : Bool} {w : List ℕ} {k : ℕ} {es : List Event} → InTurn false es → InTurn t (ends w k ∷ es)
  run-next : {r : Run} {l : ℕ} {es : List Event} → r.saved < l → InTurn true es → InTurn false (runs r l ∷ es)

in-turn-free : (t : Bool) {es : List Event} → InTurn t es → InTurn false es
in-turn-free false h = h
in-turn-free true no_more = no_more
in-turn-free true (start-next h) = start-next h
in-turn-free true (end-next h) = end-next h

-- the lexer is in a tag, or has stopped
abbrev pub in_tag : Mode → Bool
in_tag between = false
in_tag (in_data r brackets) = false
in_tag (in_entity rests at r) = false
in_tag (opened at) = true
in_tag (in_name at n) = true
in_tag (after_name at n) = true
in_tag (after_slash at n) = true
in_tag (ending at) = true
in_tag (in_end_name at n) = true
in_tag (after_end_name at n) = true
in_tag (stopped at) = true

-- a run that is not whole yet began before this place, and saves less than it has
abbrev pub BegunBefore : ℕ → Mode → Type 0
BegunBefore k between = Unit {0}
BegunBefore k (in_data r brackets) = r.start + r.saved < k
BegunBefore k (in_entity rests at r) = (r.start + r.saved ≤ at) × (at < k)
BegunBefore k (opened at) = Unit {0}
BegunBefore k (in_name at n) = Unit {0}
BegunBefore k (after_name at n) = Unit {0}
BegunBefore k (after_slash at n) = Unit {0}
BegunBefore k (ending at) = Unit {0}
BegunBefore k (in_end_name at n) = Unit {0}
BegunBefore k (after_end_name at n) = Unit {0}
BegunBefore k (stopped at) = Unit {0}

-- one byte, where the events of the rest are in turn
module _ (k b : ℕ) (bs : List ℕ) (rest : (m : Mode) → BegunBefore (suc k) m → InTurn (in_tag m) (events_from m (suc k) bs)) where
  abbrev Next : Bool → Lexed → Type 0
  Next t l = InTurn t (told l.event (events_from l.mode (suc k) bs))

  free : (m : Mode) → BegunBefore (suc k) m → Next false (goes m)
  free m h = in-turn-free (in_tag m) (rest m h)

  data-in-turn : (r : Run) (brackets : ℕ) → r.start + r.saved < suc k → Next false (goes (data_byte r brackets k b))
  data-in-turn r brackets h =
      cond_both (λ m. Next false (goes m)) (is_blank b) _ _ (free (in_data r 0) h)
      (cond_both (λ m. Next false (goes m)) (eqb b 0x26) _ _ (free (in_entity _ k (solid_by r k)) (omega arith, omega arith))
      (cond_both (λ m. Next false (goes m)) (eqb b 0x5D) _ _ (free (in_data (solid_by r k) (suc brackets)) h)
      (cond_both (λ m. Next false (goes m)) (eqb b 0x3E && leb 2 brackets) _ _ (free (stopped (k - 2)) tt) (free (in_data (solid_by r k) 0) h))))

  entity-in-turn : (rests : List (List ℕ)) (at : ℕ) (r : Run) → r.start + r.saved ≤ at → at < k → Next false (goes (entity_byte rests at k r))
  entity-in-turn rests at r h g =
      cond_both (λ m. Next false (goes m)) (is_empty rests) _ _ (free (stopped at) tt)
      (cond_both (λ m. Next false (goes m)) (any_of is_empty rests) _ _ (free (in_data (saved_by r (k - at)) 0) (omega arith)) (free (in_entity rests at r) (h, omega arith)))

  tag-in-turn : (at : ℕ) (n : List ℕ) → Next true (tag_byte at n b)
  tag-in-turn at n =
      cond_both (Next true) (is_blank b) _ _ (rest (after_name at n) tt)
      (cond_both (Next true) (eqb b 0x3E) _ _ (start-next (rest between tt))
      (cond_both (Next true) (eqb b 0x2F) _ _ (rest (after_slash at n) tt) (rest (stopped at) tt)))

  end-tag-in-turn : (at : ℕ) (n : List ℕ) → Next true (end_tag_byte at n b)
  end-tag-in-turn at n =
      cond_both (Next true) (is_blank b) _ _ (rest (after_end_name at n) tt)
      (cond_both (Next true) (eqb b 0x3E) _ _ (end-next (rest between tt)) (rest (stopped at) tt))

  longer-in-turn : (n : List ℕ) (at b : ℕ) (part : List ℕ → Mode) → Next true (goes (part (n ++ (b ∷ [])))) → Next true (goes (longer (stopped at) n b part))
  longer-in-turn n at b part h = cond_both (λ m. Next true (goes m)) (ltb (length n) max_name_bytes) _ _ h (rest (stopped at) tt)

  byte-in-turn : (m : Mode) → BegunBefore k m → Next (in_tag m) (lex m k b)
  unfolding lex
  byte-in-turn between h =
      cond_both (Next false) (eqb b 0x3C) _ _ (free (opened k) tt) (data-in-turn (run k none 0) 0 (omega arith))
  byte-in-turn (in_data r brackets) h =
      cond_both (Next false) (eqb b 0x3C) _ _ (run-next (omega arith) (rest (opened k) tt)) (data-in-turn r brackets (omega arith))
  byte-in-turn (in_entity rests at r) h = entity-in-turn (tails_with b rests) at r h.0 h.1
  byte-in-turn (opened at) h =
      cond_both (Next true) (eqb b 0x2F) _ _ (rest (ending at) tt)
      (cond_both (Next true) (starts_name b) _ _ (rest (in_name at (b ∷ [])) tt) (rest (stopped at) tt))
  byte-in-turn (in_name at n) h =
      cond_both (Next true) (continues_name b) _ _ (longer-in-turn n at b (in_name at) (rest (in_name at (n ++ (b ∷ []))) tt)) (tag-in-turn at n)
  byte-in-turn (after_name at n) h = tag-in-turn at n
  byte-in-turn (after_slash at n) h = cond_both (Next true) (eqb b 0x3E) _ _ (start-next (end-next (rest between tt))) (rest (stopped at) tt)
  byte-in-turn (ending at) h = cond_both (Next true) (starts_name b) _ _ (rest (in_end_name at (b ∷ [])) tt) (rest (stopped at) tt)
  byte-in-turn (in_end_name at n) h =
      cond_both (Next true) (continues_name b) _ _ (longer-in-turn n at b (in_end_name at) (rest (in_end_name at (n ++ (b ∷ []))) tt)) (end-tag-in-turn at n)
  byte-in-turn (after_end_name at n) h = end-tag-in-turn at n
  byte-in-turn (stopped at) h = rest (stopped at) tt

last-in-turn : (k : ℕ) (m : Mode) → BegunBefore k m → InTurn (in_tag m) (told (last_event m k) [])
last-in-turn k between h = no_more
last-in-turn k (in_data r brackets) h = run-next {r = r} {l = k - r.start} (omega arith) no_more
last-in-turn k (in_entity rests at r) h = no_more
last-in-turn k (opened at) h = no_more
last-in-turn k (in_name at n) h = no_more
last-in-turn k (after_name at n) h = no_more
last-in-turn k (after_slash at n) h = no_more
last-in-turn k (ending at) h = no_more
last-in-turn k (in_end_name at n) h = no_more
last-in-turn k (after_end_name at n) h = no_more
last-in-turn k (stopped at) h = no_more

pub events-in-turn : (m : Mode) (k : ℕ) (bs : List ℕ) → BegunBefore k m → InTurn (in_tag m) (events_from m k bs)
unfolding events_from
events-in-turn m k [] h = last-in-turn k m h
events-in-turn m k (b ∷ bs) h = byte-in-turn k b bs (λ m' h'. events-in-turn m' (suc k) bs h') m h
