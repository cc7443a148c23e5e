-- What the end of a text does to the lexer's state: its event, and what is misspelt.
use Rattle.std.specs.Prelude.{Bool, true, false, cond, [], ◌∷◌, ◌⊎◌, ◌≡◌, refl, ℕ, ◌-◌}
use Rattle.std.proofs.Common.{true≢false, inl, inr, sym, ◌∙◌}
use Rattle.journal_lexer.specs.declared.entities.EntityRest.{EntityRest}
use Rattle.journal_lexer.specs.declared.state.Event.TheVariants.{Quiet, Runs}
use Rattle.journal_lexer.specs.declared.state.Lex.{Lex}
use Rattle.journal_lexer.specs.declared.state.Mode.{Mode as CodeMode}
use Rattle.journal_lexer.specs.declared.state.Mode.TheVariants.{Between, Blanks, Solid, AfterBracket, AfterBrackets, InEntity, Opened, InName, AfterName, AfterSlash, Ending, InEndName, AfterEndName, Stopped}
use Rattle.journal_lexer.specs.declared.state.Places.{Places}
use Rattle.journal_lexer.specs.state.Modes.{is_data_mode}
use Rattle.journal_lexer.specs.state.Places.{run_of, with_tag}
use Rattle.journal_lexer.specs.state.Relation.{Means, MeansMode, TellsEvent, with_event}
use Rattle.text.specs.declared.name_words.Name.{Name}
use Rattle.token_spec.specs.Lexer.{Mode, quiet, runs, last_event, misspelt_at}

-- the modes that a text cannot end in: a tag or an entity is cut off or misspelt
abbrev pub is_cut : CodeMode → Bool
is_cut Between = false
is_cut Blanks = false
is_cut Solid = false
is_cut AfterBracket = false
is_cut AfterBrackets = false
is_cut mode = true

last-event : (mode : CodeMode) (a : Name) (c : ℕ) (x : EntityRest) (p : Places) (k : ℕ) (m : Mode) → Means mode a c x p m
    → last_event m k ≡ cond (is_data_mode mode) (runs (run_of p) (k - p.start)) quiet
last-event Between a c x p k m w = rw (w)
last-event Blanks a c x p k m w = rw w.0
last-event Solid a c x p k m w = rw w.0
last-event AfterBracket a c x p k m w = rw w.0
last-event AfterBrackets a c x p k m w = rw w.1
last-event InEntity a c x p k m w = rw w.0
last-event Opened a c x p k m w = rw (w)
last-event InName a c x p k m w = rw w.1
last-event AfterName a c x p k m w = rw w.1
last-event AfterSlash a c x p k m w = rw w.1
last-event Ending a c x p k m w = rw (w)
last-event InEndName a c x p k m w = rw w.1
last-event AfterEndName a c x p k m w = rw w.1
last-event Stopped a c x p k m w = rw (w)

misspelt-at : (mode : CodeMode) (a : Name) (c : ℕ) (x : EntityRest) (p : Places) (m : Mode) → Means mode a c x p m → misspelt_at m ≡ cond (is_cut mode) (p.at ∷ []) []
misspelt-at Between a c x p m w = rw (w)
misspelt-at Blanks a c x p m w = rw w.0
misspelt-at Solid a c x p m w = rw w.0
misspelt-at AfterBracket a c x p m w = rw w.0
misspelt-at AfterBrackets a c x p m w = rw w.1
misspelt-at InEntity a c x p m w = rw w.0
misspelt-at Opened a c x p m w = rw (w)
misspelt-at InName a c x p m w = rw w.1
misspelt-at AfterName a c x p m w = rw w.1
misspelt-at AfterSlash a c x p m w = rw w.1
misspelt-at Ending a c x p m w = rw (w)
misspelt-at InEndName a c x p m w = rw w.1
misspelt-at AfterEndName a c x p m w = rw w.1
misspelt-at Stopped a c x p m w = rw (w)

-- the state r and the places q at the end of a text, where l and p stood
pub record Ended (l : Lex) (p : Places) (r : Lex) (q : Places) : Type 0 where
  pub event : (r.event ≡ Quiet) ⊎ (r.event ≡ Runs)
  pub told : (m : Mode) → MeansMode l p m → TellsEvent r q (last_event m l.place)
  pub misspelt : (m : Mode) → MeansMode l p m → misspelt_at m ≡ cond (is_cut l.mode) (q.at ∷ []) []
  pub foreign : q.foreign_at ≡ p.foreign_at

module _ {l r : Lex} {p : Places} where
  -- in character data
  pub ended-run : is_data_mode l.mode ≡ true → r ≡ with_event Runs l → Ended l p r (with_tag p l.place)
  ended-run d e =
      rw e
      (record {
        event = inr refl;
        told = λ m w. last-event l.mode l.name l.count l.rest p l.place m w ∙ rw d;
        misspelt = λ m w. misspelt-at l.mode l.name l.count l.rest p m w ∙ no-tag l.mode d;
        foreign = refl;
      })
    where
      no-tag : (mode : CodeMode) → is_data_mode mode ≡ true → cond (is_cut mode) (p.at ∷ []) [] ≡ cond (is_cut mode) (l.place ∷ []) []
      no-tag Blanks h = refl
      no-tag Solid h = refl
      no-tag AfterBracket h = refl
      no-tag AfterBrackets h = refl
      no-tag Between h = refl
      no-tag InEntity h = absurd (true≢false (sym h))
      no-tag Opened h = absurd (true≢false (sym h))
      no-tag InName h = absurd (true≢false (sym h))
      no-tag AfterName h = absurd (true≢false (sym h))
      no-tag AfterSlash h = absurd (true≢false (sym h))
      no-tag Ending h = absurd (true≢false (sym h))
      no-tag InEndName h = absurd (true≢false (sym h))
      no-tag AfterEndName h = absurd (true≢false (sym h))
      no-tag Stopped h = absurd (true≢false (sym h))

  -- elsewhere
  pub ended-quiet : is_data_mode l.mode ≡ false → r ≡ with_event Quiet l → Ended l p r p
  ended-quiet d e =
      rw e
      (record {
        event = inl refl;
        told = λ m w. last-event l.mode l.name l.count l.rest p l.place m w ∙ rw d;
        misspelt = λ m w. misspelt-at l.mode l.name l.count l.rest p m w;
        foreign = refl;
      })
