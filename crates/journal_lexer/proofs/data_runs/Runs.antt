-- What a byte of a run that has only blanks so far says of the definition's step.
use Rattle.std.specs.Prelude.{◌≡◌, refl, ℕ, Some, None}
use Rattle.std.proofs.Common.{inl}
use Rattle.std.proofs.Math.Option.{none}
use Rattle.journal_lexer.specs.character_data.Laws.{begun-other}
use Rattle.journal_lexer.specs.declared.entities.EntityRest.TheVariants.{All}
use Rattle.journal_lexer.specs.declared.kinds.ByteKind.{ByteKind}
use Rattle.journal_lexer.specs.declared.kinds.ByteKind.TheVariants.{Blank, Ampersand, Bracket}
use Rattle.journal_lexer.specs.declared.state.Event.TheVariants.{Quiet}
use Rattle.journal_lexer.specs.declared.state.Lex.{Lex}
use Rattle.journal_lexer.specs.declared.state.Mode.TheVariants.{Blanks, Solid, AfterBracket}
use Rattle.journal_lexer.specs.declared.state.Places.{Places}
use Rattle.journal_lexer.specs.kinds.Kinds.{data_by}
use Rattle.journal_lexer.specs.state.Laws.{meant-as, meant-of, foreign-noted, foreign-same}
use Rattle.journal_lexer.specs.state.Places.{with_tag, with_foreign, lent-next, lent-same}
use Rattle.journal_lexer.specs.state.Relation.{stepped, entered, Handed, Meant}
use Rattle.std.proofs.Math.Path.{ap}
use Rattle.token_spec.specs.Lexer.{run, goes}

-- a byte of a run that has only blanks and starts at s
module _ {l : Lex} {p : Places} {b : ℕ} {c : ByteKind} (h : Handed l p b c) (s : ℕ) where
  -- the run begun with a blank, or with another byte
  abbrev blank_begun : Places
  blank_begun = record p { start = s; solid_at = None }

  abbrev solid_begun : Places
  solid_begun = record p { start = s; solid_at = Some l.place }

  module _ {r : Lex} where
    pub data-blank : c ≡ Blank → r ≡ stepped Blanks Quiet l → Meant l p b r blank_begun (goes (data_by (run s none p.saved) 0 l.place c))
    data-blank e f =
        rw (f, e)
        (record {
          place = refl;
          mode = (refl, refl);
          event = refl;
          silent = inl refl;
          foreign = foreign-same h p (λ z. (cc)) refl;
          lent = lent-next (lent-same _ refl h.lent);
        })

    -- the byte is the run's first that is not a blank
    pub data-entity : {q : Places} → c ≡ Ampersand → r ≡ entered All l → q ≡ with_tag solid_begun l.place
        → Meant l p b r q (goes (data_by (run s none p.saved) 0 l.place c))
    data-entity e f g =
        rw (f, g, e)
        (record {
          place = refl;
          mode = (refl, (l.place, refl), (λ z. (cc)), h.lent.few);
          event = refl;
          silent = inl refl;
          foreign = foreign-same h p (λ z. (cc)) refl;
          lent = lent-next (lent-same _ refl h.lent);
        })

    pub data-bracket : c ≡ Bracket → r ≡ stepped AfterBracket Quiet l → Meant l p b r solid_begun (goes (data_by (run s none p.saved) 0 l.place c))
    data-bracket e f =
        rw (f, e)
        (record {
          place = refl;
          mode = (refl, (l.place, refl));
          event = refl;
          silent = inl refl;
          foreign = foreign-same h p (λ z. (cc)) refl;
          lent = lent-next (lent-same _ refl h.lent);
        })

    pub data-solid : {q : Places} → (c ≡ Blank → ⊥) → (c ≡ Ampersand → ⊥) → (c ≡ Bracket → ⊥) → r ≡ stepped Solid Quiet l
        → q ≡ with_foreign c solid_begun l.place → Meant l p b r q (goes (data_by (run s none p.saved) 0 l.place c))
    data-solid x y z f g =
        meant-of (ap goes (begun-other (run s none p.saved) l.place c x y z))
        (meant-as f g
        (record {
          place = refl;
          mode = (refl, (l.place, refl));
          event = refl;
          silent = inl refl;
          foreign = foreign-noted h p refl;
          lent = lent-next (lent-same _ refl h.lent);
        }))
