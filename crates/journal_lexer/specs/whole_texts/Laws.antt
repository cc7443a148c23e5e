-- Laws of the first run of character data: one turn more, and the size that is told is the definition's.
use Rattle.std.specs.Prelude.{Bool, true, false, cond, List, ◌≡◌, refl, ℕ, suc, ◌-◌, ◌≤◌, ◌<◌, eqb, ltb, length, get_or, drop}
use Rattle.std.proofs.Math.Logic.{inl}
use Rattle.std.proofs.Common.{inr, sym, ap, ◌∙◌, le_refl, arith, ltb-true, ltb-false, lt-ltb, le-ltb, eq-eqb, ne_eqb, drop_of_length-le, drop-cons}
use Rattle.std.proofs.Math.Option.{none, some}
use Rattle.std.proofs.Math.Path.{subst}
use Rattle.journal_lexer.specs.declared.entities.EntityRest.{EntityRest}
use Rattle.journal_lexer.specs.declared.kinds.ByteKind.{ByteKind}
use Rattle.journal_lexer.specs.declared.state.Event.TheVariants.{Quiet}
use Rattle.journal_lexer.specs.declared.state.Lex.{Lex}
use Rattle.journal_lexer.specs.declared.state.Mode.{Mode as CodeMode}
use Rattle.journal_lexer.specs.declared.state.Mode.TheVariants.{Between, Blanks, Solid, AfterBracket, AfterBrackets, InEntity, Opened, InName, AfterName, AfterSlash, Ending, InEndName, AfterEndName, Stopped}
use Rattle.journal_lexer.specs.declared.state.Places.{Places}
use Rattle.journal_lexer.specs.kinds.Kinds.{KindTable}
use Rattle.journal_lexer.specs.loop_laws.Advance.{foreign_below, Stands, Ready, only, Progress, moved, stayed, Advance, byte_at, kind_at}
use Rattle.journal_lexer.specs.loop_laws.Laws.{ready-after}
use Rattle.journal_lexer.specs.loop_laws.Turns.{byte-handed, byte-quiet}
use Rattle.journal_lexer.specs.run_laws.Passes.{Passes, stays, reads}
use Rattle.journal_lexer.specs.state.Modes.{is_data_mode}
use Rattle.journal_lexer.specs.state.Places.{no_place, no_places, run_of}
use Rattle.journal_lexer.specs.state.Relation.{Means, Silent, Handed, Steps, initially}
use Rattle.journal_lexer.specs.whole_texts.Runs.{RunMode, Fresh, Begun, Come, size_at}
use Rattle.text.specs.declared.name_words.Name.{Name}
use Rattle.text_spec.specs.Lists.{value_or}
use Rattle.token_laws.specs.Texts.{BegunFrom, begun-after, begun-no-size}
use Rattle.token_spec.specs.Lexer.{Mode, between, in_data, Event, quiet, Lexed, mode_after}
use Rattle.token_spec.specs.Texts.{run_size, decoded_size}

-- ---- before the first byte

pub fresh : {text : List ℕ} {kinds : List ByteKind} → KindTable kinds → length text < no_place → Fresh text kinds no_places
fresh h l = record { table = h; short = l; lent = record { few = omega arith }; foreign = refl }

module _ {text : List ℕ} {kinds : List ByteKind} {p : Places} (h : Fresh text kinds p) {l : Lex} (e : l ≡ initially) where
  pub fresh-ready : Ready text kinds l p × (l.event ≡ Quiet)
  fresh-ready = (subst (λ (x : Lex). Ready text kinds x p) (sym e) first, rw e)
    where
      first : Ready text kinds initially p
      first = record { table = h.table; short = h.short; inside = omega arith; lent = h.lent; valid = record { mode = between; means = refl } }

  fresh-stands : Stands text 0 between l p
  unfolding foreign_below
  fresh-stands = subst (λ (x : Lex). Stands text 0 between x p) (sym e) first
    where
      first : Stands text 0 between initially p
      first = record { mode = between; event = quiet; way = stays; means = refl; told = refl; silent = inl refl; foreign = h.foreign }

-- ---- turns

-- a run goes on without an event
run-quiet : {text : List ℕ} {l : Lex} {p : Places} → RunMode l.mode → Stands text 0 between l p → l.event ≡ Quiet
run-quiet {text} {l} {p} t h = pick h.silent
  where
    pick : Silent l → l.event ≡ Quiet
    pick (inl e) = e
    pick (inr (inl e)) = absurd (subst RunMode e t)
    pick (inr (inr e)) = absurd (subst RunMode e t)

moved_on : {f : CodeMode → Type 0} {text : List ℕ} {l r : Lex} → f l.mode → l.place < length text → Progress f text l r → l.place < r.place
moved_on t h (moved m) = m
moved_on t h (stayed e n) = absurd (n h t)

module _ {text : List ℕ} {kinds : List ByteKind} {p : Places} where
  pub run-first : {l r : Lex} {q : Places} → Fresh text kinds p → l ≡ initially → Advance (only Between) text l p r q → Begun text kinds r q
  run-first {l} h e a =
      record {
        ready = ready-after (fresh-ready h e).0 a;
        stands = a.stands 0 between (fresh-stands h e);
        begun = λ m. omega (arith, moved_on (ap (λ (x : Lex). x.mode) e) (subst (λ (x : Lex). x.place < length text) (sym e) m) a.progress);
      }

  module _ {l : Lex} (h : Begun text kinds l p) where
    pub run-over : (l.place < length text → RunMode l.mode → ⊥) → Come text l p
    run-over n = record { inside = h.ready.inside; lent = h.ready.lent; stands = h.stands; begun = h.begun; over = n }

    pub run-ended : length text ≤ l.place → Come text l p
    run-ended n = run-over (λ m t. absurd (omega arith))

    -- a byte of the run
    module _ (t : RunMode l.mode) (more : l.place < length text) (byte : get_or text l.place 0 < 256) where
      pub run-handed : Handed l p (byte_at text l) (kind_at text kinds l)
      run-handed = byte-handed h.ready more byte

      module _ {r : Lex} {q : Places} (s : Steps l.mode l p (byte_at text l) r q) where
        farther : Advance RunMode text l p r q
        farther = byte-quiet h.ready more byte (run-quiet t h.stands) refl s

        pub run-falls : length text - r.place < length text - l.place
        run-falls = omega (arith, moved_on t more farther.progress, more)

        pub run-next : Begun text kinds r q
        run-next =
            record {
              ready = ready-after h.ready farther;
              stands = farther.stands 0 between h.stands;
              begun = λ m. omega (arith, moved_on t more farther.progress);
            }

-- ---- a loop of some modes

not_back : {f : CodeMode → Type 0} {text : List ℕ} {l r : Lex} → Progress f text l r → l.place ≤ r.place
not_back (moved m) = omega arith
not_back {l = l} (stayed e n) = subst (λ (x : Lex). l.place ≤ x.place) (sym e) (le_refl l.place)

module _ {f : CodeMode → Type 0} {text : List ℕ} {l r : Lex} {p q : Places} (a : Advance f text l p r q) where
  pub run_on : {kinds : List ByteKind} → Begun text kinds l p → Begun text kinds r q
  run_on h =
      record {
        ready = ready-after h.ready a;
        stands = a.stands 0 between h.stands;
        begun = λ m. omega (arith, h.begun m, not_back a.progress);
      }

  pub run-still-falls : (n : ℕ) → length text - l.place < n → length text - r.place < n
  run-still-falls n h = omega (arith, not_back a.progress)

-- ---- the size

-- where the definition comes to from a place, it comes to on the way from there
way-mode : {text : List ℕ} {k : ℕ} {m : Mode} {j : ℕ} {n : Mode} {e : Event} → Passes text k m j n e → mode_after m k (drop k text) ≡ mode_after n j (drop j text)
unfolding mode_after
way-mode stays = refl
way-mode {text} (reads {j = j} {n = n} w h q) =
    way-mode w ∙ ap (mode_after n j) (drop-cons text j 0 h) ∙ ap (λ (x : Lexed). mode_after x.mode (suc j) (drop (suc j) text)) q

at-end : (text : List ℕ) (n : Mode) (j : ℕ) → j ≡ length text → mode_after n j (drop j text) ≡ n
unfolding mode_after
at-end text n j e = ap (λ (i : ℕ). mode_after n j (drop i text)) e ∙ ap (mode_after n j) (drop_of_length-le text (le_refl _))

module _ (w : Name) (k : ℕ) (x : EntityRest) (p : Places) (m : Mode) where
  -- outside a run, none is open
  outside : (mode : CodeMode) → (RunMode mode → ⊥) → Means mode w k x p m → BegunFrom 1 m
  outside Between n h = subst (BegunFrom 1) (sym h) tt
  outside Opened n h = subst (BegunFrom 1) (sym h) tt
  outside InName n h = subst (BegunFrom 1) (sym h.1) tt
  outside AfterName n h = subst (BegunFrom 1) (sym h.1) tt
  outside AfterSlash n h = subst (BegunFrom 1) (sym h.1) tt
  outside Ending n h = subst (BegunFrom 1) (sym h) tt
  outside InEndName n h = subst (BegunFrom 1) (sym h.1) tt
  outside AfterEndName n h = subst (BegunFrom 1) (sym h.1) tt
  outside Stopped n h = subst (BegunFrom 1) (sym h) tt
  outside mode n h = absurd (n tt)

  told-size : (size : ℕ) (y : Mode) → m ≡ y → value_or 0 (run_size size m) ≡ value_or 0 (run_size size y)
  told-size size y e = ap (λ (z : Mode). value_or 0 (run_size size z)) e

  run-told : (size c : ℕ) → m ≡ in_data (run_of p) c → value_or 0 (run_size size m) ≡ cond (eqb p.start 0) (size - p.saved) 0
  run-told size c e = told-size size (in_data (run_of p) c) e ∙ pick (eqb p.start 0)
    where
      pick : (t : Bool) → value_or 0 (cond t (some (size - p.saved)) none) ≡ cond t (size - p.saved) 0
      pick true = refl
      pick false = refl

  means-size : (size : ℕ) (mode : CodeMode) → Means mode w k x p m
      → value_or 0 (run_size size m) ≡ cond (is_data_mode mode) (cond (eqb p.start 0) (size - p.saved) 0) 0
  means-size size Between h = told-size size _ h
  means-size size Blanks h = run-told size 0 h.0
  means-size size Solid h = run-told size 0 h.0
  means-size size AfterBracket h = run-told size 1 h.0
  means-size size AfterBrackets h = run-told size (suc (suc h.0)) h.1
  means-size size InEntity h = told-size size _ h.0
  means-size size Opened h = told-size size _ h
  means-size size InName h = told-size size _ h.1
  means-size size AfterName h = told-size size _ h.1
  means-size size AfterSlash h = told-size size _ h.1
  means-size size Ending h = told-size size _ h
  means-size size InEndName h = told-size size _ h.1
  means-size size AfterEndName h = told-size size _ h.1
  means-size size Stopped h = told-size size _ h

-- the size that is told is the definition's
pub come-size : {text : List ℕ} {l : Lex} {p : Places} → Come text l p → size_at (length text) p l.place l.mode ≡ value_or 0 (decoded_size text)
unfolding decoded_size
come-size {text} {l} {p} h = by (ltb l.place (length text)) refl
  where
    way : mode_after between 0 text ≡ mode_after h.stands.mode l.place (drop l.place text)
    way = way-mode h.stands.way

    by : (t : Bool) → ltb l.place (length text) ≡ t
        → cond t 0 (cond (is_data_mode l.mode) (cond (eqb p.start 0) (length text - p.saved) 0) 0) ≡ value_or 0 (run_size (length text) (mode_after between 0 text))
    by true e =
        let more : l.place < length text = ltb-true l.place (length text) e in
        let one : 1 ≤ l.place = h.begun (omega arith) in
        let past = begun-after 1 l.place h.stands.mode (drop l.place text) one (outside l.name l.count l.rest p h.stands.mode l.mode (h.over more) h.stands.means) in
        sym (ap (λ (x : Mode). value_or 0 (run_size (length text) x)) way ∙ ap (value_or 0) (begun-no-size (length text) (mode_after h.stands.mode l.place (drop l.place text)) past))
    by false e =
        let least : length text ≤ l.place = ltb-false l.place (length text) e in
        let same : l.place ≡ length text = omega (arith, least, h.inside) in
        sym (ap (λ (x : Mode). value_or 0 (run_size (length text) x)) (way ∙ at-end text h.stands.mode l.place same) ∙ means-size l.name l.count l.rest p h.stands.mode (length text) l.mode h.stands.means)

-- the size by the tests of the code
module _ (size : ℕ) (p : Places) (place : ℕ) (mode : CodeMode) where
  pub size-short : place < size → 0 ≡ size_at size p place mode
  size-short h = rw (lt-ltb place size h)

  module _ (read : size ≤ place) where
    pub size-between : mode ≡ Between → 0 ≡ size_at size p place mode
    size-between e = rw (le-ltb place size read, e)

    pub size-outside : is_data_mode mode ≡ false → 0 ≡ size_at size p place mode
    size-outside h = rw (le-ltb place size read, h)

    module _ (in-data : is_data_mode mode ≡ true) where
      pub size-later : (p.start ≡ 0 → ⊥) → 0 ≡ size_at size p place mode
      size-later n = rw (le-ltb place size read, in-data, ne_eqb p.start 0 n)

      pub size-whole : p.start ≡ 0 → size - p.saved ≡ size_at size p place mode
      size-whole e = rw (le-ltb place size read, in-data, eq-eqb p.start 0 e)
