-- One event more, one byte more.
use Rattle.std.specs.Prelude.{Bool, true, false, cond, List, [], ◌∷◌, ◌++◌, reverse, ◌≡◌, refl, ℕ, zero, suc, ◌≤◌, ◌<◌, get_or, Option as CodeOption, Some, None as NoPlace}
use Rattle.std.proofs.Common.{sym, ap, subst, ◌∙◌, add-one, arith}
use Rattle.std.proofs.Math.Option.{Option, none, some}
use Rattle.journal_builder.specs.build_state.State.{Built, Leaves}
use Rattle.journal_builder.specs.declared.build_state.Build.{Build}
use Rattle.journal_builder.specs.declared.build_state.BuildStep.{BuildStep}
use Rattle.journal_laws.specs.Derivations.{Clean, clean-event}
use Rattle.journal_builder.specs.declared.open_levels.Level.{Level}
use Rattle.journal_lexer.specs.declared.state.Lex.{Lex}
use Rattle.journal_lexer.specs.declared.state.Places.{Places}
use Rattle.journal_lexer.specs.loop_laws.Advance.{foreign_below}
use Rattle.journal_lexer.specs.run_laws.Passes.{foreigns_below}
use Rattle.journal_lexer.specs.state.Places.{no_place, first_noted}
use Rattle.journal_lexer.specs.state.Relation.{first_foreign, MeansMode, Meant}
use Rattle.journal_reader.specs.declared.state.ReaderState.{ReaderState}
use Rattle.journal_reader.specs.rows.Rows.{RowAdded}
use Rattle.journal_reader.specs.state.Reading.{ForeignCell, Usable, ReadAs}
use Rattle.journal_spec.specs.Builder.{Building, on_event}
use Rattle.journal_spec.specs.Reading.{Machine, step}
use Rattle.schema_spec.specs.Schemas.{Schema}
use Rattle.table_spec.specs.Columns.{Columns, Sizes, columns_of}
use Rattle.text.specs.fault_keys.KeyLaws.{key_below}
use Rattle.text.specs.fault_keys.Keys.{no_key, place_limit, key_at, least_key, Placed}
use Rattle.text_laws.specs.Lists.{append-empty}
use Rattle.text_spec.specs.Bytes.{is_foreign}
use Rattle.text_spec.specs.Lists.{list_of}
use Rattle.text_spec.specs.Refusals.{Refusal, at, given, bad_byte}
use Rattle.token_spec.specs.Lexer.{Event, Lexed, lex}

-- ---- the first foreign byte
pub no-foreign : ForeignCell NoPlace 0 []
no-foreign = record { key = refl; below = tt; placed = tt }

pub foreign_next : {x : CodeOption ℕ} {k : ℕ} {fs : List Refusal} (b : ℕ) → k < no_place → ForeignCell x k fs
    → ForeignCell (first_foreign x b k) (suc k) (given (is_foreign b) (at bad_byte k) ++ fs)
foreign_next {x} {k} {fs} b room c = pick (is_foreign b) x c
  where
    pick : (t : Bool) (x : CodeOption ℕ) → ForeignCell x k fs → ForeignCell (cond t (first_noted x k) x) (suc k) (given t (at bad_byte k) ++ fs)
    pick false NoPlace c = record { key = c.key; below = tt; placed = c.placed }
    pick false (Some j) c = let l : j < k = c.below in record { key = c.key; below = omega arith; placed = c.placed }
    pick true NoPlace c = let h : least_key fs ≡ no_key = c.key in record { key = omega arith; below = omega arith; placed = (omega arith, c.placed) }
    pick true (Some j) c =
        let h : least_key fs ≡ key_at 3 j = c.key in
        let l : j < k = c.below in
        record { key = omega arith; below = omega arith; placed = (omega arith, c.placed) }

-- the first foreign byte below a place
pub foreign_below_lem : (text : List ℕ) (k : ℕ) → k ≤ no_place → ForeignCell (foreign_below text k) k (foreigns_below text k)
unfolding foreign_below foreigns_below
foreign_below_lem text zero h = no-foreign
foreign_below_lem text (suc k) h = foreign_next (get_or text k 0) (omega arith) (foreign_below_lem text k (omega arith))

-- ---- fewer nodes than places
pub few-nodes : {places : Places} {c : Columns} {x : ReaderState} → Usable places c x → x.lex.place < no_place → x.build.count < place_limit
few-nodes u h = omega (arith, u.counted)

-- ---- no refusal now, none before
least-none : (fs : List Refusal) → Placed fs → least_key fs ≡ no_key → fs ≡ []
least-none [] p e = refl
least-none (f ∷ fs) p e = let l = key_below f p.0 in absurd (omega arith)

clean_of : (s : Schema) (levels : List Level) (m : Build) (b : Building) → Built s levels m b → m.fault ≡ no_key → Clean b
clean_of s levels m b w e =
    let None-found = append-empty (list_of b.broken) b.faults (least-none (list_of b.broken ++ b.faults) w.placed (sym w.fault ∙ e)) in
    record { unbroken = pick b.broken None-found.0; faultless = None-found.1 }
  where
    pick : (o : Option Refusal) → list_of o ≡ [] → o ≡ none
    pick none h = refl
    pick (some f) h = absurd (filled h)
      where
        filled : f ∷ [] ≡ [] → ⊥
        filled e = let z : ◌≡◌ {A = ℕ} 0 1 = cc in omega arith

fault-of-clean : (s : Schema) (levels : List Level) (m : Build) (b : Building) → Built s levels m b → Clean b → m.fault ≡ no_key
fault-of-clean s levels m b w c = w.fault ∙ rw (c.unbroken, c.faultless)

-- ---- one event more
module _ {s : Schema} {levels after : List Level} {m : Build} {b : Building} {x : BuildStep} (e : Event) (w : Built s levels m b)
    (l : Leaves s after m b x (on_event s e b)) where
  pub faultless-before : x.build.fault ≡ no_key → m.fault ≡ no_key
  faultless-before f = fault-of-clean s levels m b w (clean-event s e b (clean_of s after x.build (on_event s e b) l.built f))

  pub rows_next : {c d : Columns} (z : Sizes) → RowAdded c m.count x d → (m.fault ≡ no_key → c ≡ columns_of z (reverse b.rows))
      → x.build.fault ≡ no_key → d ≡ columns_of z (reverse (on_event s e b).rows)
  rows_next z r h f = r.holds z b.rows (on_event s e b).rows (w.count ∙ w.listed) (l.rows f) (h (faultless-before f))

-- ---- one byte more: the definition's step
pub read_next : {s : Schema} {z : Sizes} {levels after : List Level} {places q : Places} {c d : Columns} {x : ReaderState} {m : Machine} {l : Lex} {y : Build} (b : ℕ)
    → ReadAs s z levels places c x m → x.lex.place < no_place → Meant x.lex places b l q (lex m.mode x.lex.place b)
    → Built s after y (on_event s (lex m.mode x.lex.place b).event m.built)
    → (y.fault ≡ no_key → d ≡ columns_of z (reverse (on_event s (lex m.mode x.lex.place b).event m.built).rows))
    → ReadAs s z after q d (record { lex = l; build = y }) (step s m b)
unfolding step
read_next {s} {z} {levels} {after} {places} {q} {c} {d} {x} {m} {l} {y} b r room g v a =
    let e : lex m.mode m.place b ≡ lex m.mode x.lex.place b = ap (λ (k : ℕ). lex m.mode k b) (sym r.place) in
    let u : on_event s (lex m.mode x.lex.place b).event m.built ≡ on_event s (lex m.mode m.place b).event m.built =
    ap (λ (t : Lexed). on_event s t.event m.built) (sym e)
    in
    record {
      place = g.place ∙ add-one x.lex.place ∙ ap suc r.place;
      mode = subst (λ (t : Lexed). MeansMode l q t.mode) (sym e) g.mode;
      foreign =
          subst (λ (t : CodeOption ℕ). ForeignCell t (suc m.place) (given (is_foreign b) (at bad_byte m.place) ++ m.foreign))
          (sym (g.foreign ∙ ap (first_foreign places.foreign_at b) r.place))
          (foreign_next b (subst (λ (k : ℕ). k < no_place) r.place room) r.foreign);
      built = subst (λ (t : Building). Built s after y t) u v;
      rows = λ f. a f ∙ ap (λ (t : Building). columns_of z (reverse t.rows)) u;
    }
