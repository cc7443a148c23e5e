-- What the end of a text leaves: the answer, and the rows in the columns.
use Rattle.std.specs.Prelude.{true, List, reverse, ◌≡◌, ℕ, ◌≤◌, ◌<◌, length, Option, Some, None, Result}
use Rattle.std.proofs.Common.{true≢false, sym, ap, subst, ◌∙◌, arith}
use Rattle.std.proofs.lemmas.List.{length-reverse}
use Rattle.cells.specs.verdicts.Verdicts.{verdict}
use Rattle.journal_builder.specs.build_state.State.{Built, PlacedIn, ends_short}
use Rattle.journal_builder.specs.declared.build_state.Build.{Build}
use Rattle.journal_builder.specs.declared.journal_schema.JournalSchema.{JournalSchema}
use Rattle.journal_builder.specs.declared.open_levels.Level.{Level}
use Rattle.journal_builder.specs.journal_schema.Schemas.{SchemaOf}
use Rattle.journal_lexer.specs.declared.state.Lex.{Lex}
use Rattle.journal_lexer.specs.declared.state.Mode.{Mode as CodeMode}
use Rattle.journal_lexer.specs.declared.state.Places.{Places}
use Rattle.journal_lexer.specs.run_laws.Findings.{KeyTells, accepts, refuses, read_told}
use Rattle.journal_lexer.specs.state.Places.{no_place}
use Rattle.journal_lexer.specs.state.Relation.{TellsEvent}
use Rattle.journal_reader.specs.declared.state.ReaderState.{ReaderState}
use Rattle.journal_reader.specs.event_rows.Events.{EventRead}
use Rattle.journal_reader.specs.findings.Endings.{is_cut, Ended}
use Rattle.journal_reader.specs.findings.Findings.{foreign_noted, found_key, found-key-is, found-placed}
use Rattle.journal_reader.specs.state.Reading.{ForeignCell, ReadAs}
use Rattle.journal_spec.specs.Builder.{Building, on_event}
use Rattle.journal_spec.specs.Reading.{Machine, initial, run, ended, read_journal}
use Rattle.schema_spec.specs.Schemas.{Schema}
use Rattle.table_spec.specs.Columns.{Columns, Sizes, columns_of}
use Rattle.table_spec.specs.Rows.{Row}
use Rattle.text.specs.fault_keys.KeyLaws.{noted-none}
use Rattle.text.specs.fault_keys.Keys.{no_key, place_limit, noted_key}
use Rattle.text.specs.declared.refusals.Refusal.{Refusal}
use Rattle.text_spec.specs.Refusals.{Outcome, accepted, refused, is_accepted}
use Rattle.token_spec.specs.Lexer.{last_event}

-- the answer, and the rows in the columns where nothing is refused
pub record Answered (z : Sizes) (limit : ℕ) (s : Schema) (text : List ℕ) (d : Columns) (r : Result ℕ Refusal) : Type 0 where
  pub answer : r ≡ verdict (read_journal limit s text)
  pub held : (rows : List Row) → read_journal limit s text ≡ accepted rows → d ≡ columns_of z rows

-- from a state that stands for the machine at the end of a text
pub record Finished (t : JournalSchema) (levels : List Level) (places : Places) (c : Columns) (x : ReaderState) (d : Columns) (r : Result ℕ Refusal) : Type 0 where
  pub answered : (s : Schema) (z : Sizes) (text : List ℕ) (limit : ℕ) → SchemaOf s t → ReadAs s z levels places c x (run s initial text) → 1 ≤ length text
      → length text ≤ limit → Answered z limit s text d r

-- no refusal: then none of the builder's
no-fault : (q : Places) (mode : CodeMode) (m : Build) (n : ℕ) → n < place_limit → q.at < place_limit → PlacedIn q.foreign_at → found_key q mode m n ≡ no_key → m.fault ≡ no_key
no-fault q mode m n k a b e =
    let early = noted_key (ends_short m) 12 n m.fault in
    let rest = (noted-none (is_cut mode) 11 q.at early (omega arith) a (foreign-none q.foreign_at (noted_key (is_cut mode) 11 q.at early) b e)).1 in
    (noted-none (ends_short m) 12 n m.fault (omega arith) k rest).1
  where
    foreign-none : (x : Option ℕ) (key : ℕ) → PlacedIn x → foreign_noted x key ≡ no_key → key ≡ no_key
    foreign-none None key p h = h
    foreign-none (Some x) key p h = (noted-none true 3 x key (omega arith) p h).1

-- what the accepted outcome gives is what is built
told-rows : {A : Type 0} {key : ℕ} {a b : A} {o : Outcome A} → KeyTells key a o → o ≡ accepted b → (key ≡ no_key) × (a ≡ b)
told-rows {A} {key} {a} {b} (accepts e) q = (e, same q)
  where
    same : ◌≡◌ {A = Outcome A} (accepted a) (accepted b) → a ≡ b
    same z = cc
told-rows {A} {key} {a} {b} {o} (refuses {f} x y l) q = absurd (differ q)
  where
    differ : ◌≡◌ {A = Outcome A} (refused f) (accepted b) → ⊥
    differ z = true≢false (ap is_accepted (sym z))

module _ {t : JournalSchema} {levels after : List Level} {places q : Places} {c d : Columns} {x : ReaderState} {last : Lex} {r : Build} {key : ℕ} {y : Result ℕ Refusal} (room : x.lex.place < no_place)
    (e : Ended x.lex places last q) (v : EventRead t levels q c last x.build after d r) (k : key ≡ found_key q x.lex.mode r x.lex.place)
    (low : q.at < place_limit) (low-foreign : PlacedIn q.foreign_at)
    (ans : (all : List Row) (o : Outcome (List Row)) → KeyTells key all o → (key ≡ no_key → r.count ≡ length all) → y ≡ verdict o) where
  -- what the definition builds at the end
  same_end : (s : Schema) (m : Machine) → x.lex.place ≡ m.place → on_event s (last_event m.mode x.lex.place) m.built ≡ ended s m
  same_end s m p = ap (λ (n : ℕ). on_event s (last_event m.mode n) m.built) p

  pub finished : Finished t levels places c x d y
  finished = record { answered = λ s z text limit cells w filled within. by s z text limit cells w filled within }
    where
      by : (s : Schema) (z : Sizes) (text : List ℕ) (limit : ℕ) → SchemaOf s t → ReadAs s z levels places c x (run s initial text) → 1 ≤ length text
          → length text ≤ limit → Answered z limit s text d y
      by s z text limit cells w filled within =
          let m = run s initial text in
          let told : TellsEvent last q (last_event m.mode x.lex.place) = e.told m.mode w.mode in
          let same = same_end s m w.place in
          let built : Built s after r (ended s m) =
          subst (λ (b : Building). Built s after r b) same (v.built s m.built (last_event m.mode x.lex.place) cells told w.built)
          in
          let cell : ForeignCell q.foreign_at m.place m.foreign =
          subst (λ (y : Option ℕ). ForeignCell y m.place m.foreign) (sym e.foreign) w.foreign
          in
          let mis = e.misspelt m.mode w.mode in
          let none : key ≡ no_key → r.fault ≡ no_key =
          λ f. no-fault q x.lex.mode r x.lex.place (omega arith) low low-foreign (sym k ∙ f)
          in
          let key-told =
          read_told limit s text key filled within
          (found-placed q x.lex.mode m built cell mis (subst (λ (n : ℕ). n < place_limit) w.place (omega arith)) low)
          (k ∙ ap (found_key q x.lex.mode r) w.place ∙ found-key-is q x.lex.mode m built cell mis)
          in
          record {
            answer = ans (reverse (ended s m).rows) (read_journal limit s text) key-told (λ f. built.count ∙ built.listed ∙ sym (length-reverse (ended s m).rows));
            held = λ rows g.
                let a = told-rows key-told g in
                v.rows s m.built (last_event m.mode x.lex.place) z cells told w.built w.rows (none a.0)
                ∙ ap (λ (b : Building). columns_of z (reverse b.rows)) same
                ∙ ap (columns_of z) a.1;
          }
