-- The automaton of entities is the definition's list of what may still come.
use Rattle.std.specs.Prelude.{Bool, true, false, cond, List, [], ◌∷◌, ◌≡◌, refl, ℕ, ◌≤◌, eqb, Option, Some, None}
use Rattle.std.proofs.Common.{inl, sym, ◌∙◌, eqb-true}
use Rattle.std.proofs.Math.Path.{ap}
use Rattle.journal_lexer.specs.declared.entities.EntityRest.{EntityRest}
use Rattle.journal_lexer.specs.declared.entities.EntityRest.TheVariants.{All, ThenT, ThenSemicolon, ThenMpOrPos, ThenP, ThenOs, ThenS, ThenUot, ThenOt, Ended}
use Rattle.journal_lexer.specs.declared.kinds.ByteKind.{ByteKind}
use Rattle.journal_lexer.specs.declared.state.Event.TheVariants.{Quiet}
use Rattle.journal_lexer.specs.declared.state.Lex.{Lex}
use Rattle.journal_lexer.specs.declared.state.Mode.TheVariants.{Solid, InEntity, Stopped}
use Rattle.journal_lexer.specs.declared.state.Places.{Places}
use Rattle.journal_lexer.specs.entities.Rests.{rests_of, rest_after, only_by}
use Rattle.journal_lexer.specs.kinds.Kinds.{lex_by}
use Rattle.journal_lexer.specs.state.Laws.{meant-as, meant-of, steps-by, leads, foreign-noted, stops}
use Rattle.journal_lexer.specs.state.Places.{run_of, HasSolid, with_foreign, with_saved, saved-run, lent-next, lent-same, lent-saved}
use Rattle.journal_lexer.specs.state.Relation.{stepped, entered, Handed, Meant, Steps}
use Rattle.token_spec.specs.Lexer.{Run, in_data, in_entity, goes, tails_with, entity_byte}

-- what may still come, none where nothing can
abbrev rests_left : Option EntityRest → List (List ℕ)
rests_left None = []
rests_left (Some x) = rests_of x

one_way : (b c : ℕ) (w : List ℕ) (x : EntityRest) → rests_of x ≡ w ∷ [] → tails_with b ((c ∷ w) ∷ []) ≡ rests_left (only_by b c x)
one_way b c w x e = by (eqb b c)
  where
    by : (t : Bool) → cond t (w ∷ []) [] ≡ rests_left (cond t (Some x) None)
    by true = sym e
    by false = refl

-- the next state is what is left of what may come
pub rests-after : (x : EntityRest) (b : ℕ) → tails_with b (rests_of x) ≡ rests_left (rest_after x b)
rests-after All b = first (eqb b 108) refl
  where
    third : (t : Bool) → eqb b 97 ≡ t → eqb b 108 ≡ false → eqb b 103 ≡ false → tails_with b (rests_of All) ≡ rests_left (rest_after All b)
    third true e x y = rw (eqb-true b 97 e)
    third false e x y = rw (x, y, e) (by (eqb b 113))
      where
        by : (t : Bool) → cond t (rests_of ThenUot) [] ≡ rests_left (cond t (Some ThenUot) None)
        by true = refl
        by false = refl

    second : (t : Bool) → eqb b 103 ≡ t → eqb b 108 ≡ false → tails_with b (rests_of All) ≡ rests_left (rest_after All b)
    second true e x = rw (eqb-true b 103 e)
    second false e x = third (eqb b 97) refl x e

    first : (t : Bool) → eqb b 108 ≡ t → tails_with b (rests_of All) ≡ rests_left (rest_after All b)
    first true e = rw (eqb-true b 108 e)
    first false e = second (eqb b 103) refl e
rests-after ThenT b = one_way b 116 _ ThenSemicolon refl
rests-after ThenSemicolon b = one_way b 59 _ Ended refl
rests-after ThenMpOrPos b = first (eqb b 109) refl
  where
    first : (t : Bool) → eqb b 109 ≡ t → tails_with b (rests_of ThenMpOrPos) ≡ rests_left (rest_after ThenMpOrPos b)
    first true e = rw (eqb-true b 109 e)
    first false e = rw e (one_way b 112 _ ThenOs refl)
rests-after ThenP b = one_way b 112 _ ThenSemicolon refl
rests-after ThenOs b = one_way b 111 _ ThenS refl
rests-after ThenS b = one_way b 115 _ ThenSemicolon refl
rests-after ThenUot b = one_way b 117 _ ThenOt refl
rests-after ThenOt b = one_way b 111 _ ThenT refl
rests-after Ended b = refl

-- something may still come, but for an entity that has ended
more_comes : (x : EntityRest) (at k : ℕ) (r : Run) → (x ≡ Ended → ⊥) → entity_byte (rests_of x) at k r ≡ in_entity (rests_of x) at r
more_comes Ended at k r n = absurd (n refl)
more_comes x at k r n = refl

module _ {l : Lex} {p : Places} {b : ℕ} {c : ByteKind} (h : Handed l p b c) {r : Lex} {q : Places} where
  entity-of : (x : Option EntityRest) → rest_after l.rest b ≡ x
      → (HasSolid p → p.saved ≤ p.at → Meant l p b r q (goes (entity_byte (rests_left x) p.at l.place (run_of p)))) → Steps InEntity l p b r q
  unfolding lex_by
  entity-of x e g =
      steps-by h InEntity
      (λ m w. leads h w.0
      (meant-of (ap (λ (z : List (List ℕ)). goes (entity_byte z p.at l.place (run_of p))) (rests-after l.rest b ∙ ap rests_left e)) (g w.1 w.3)))

  -- an entity that has ended is in no mode
  pub entity-none : l.rest ≡ Ended → Steps InEntity l p b r q
  entity-none n = record { meant = λ m w. absurd (w.2 n) }

  pub entity-past : {x : EntityRest} {u : Places} → rest_after l.rest b ≡ Some x → x ≡ Ended → r ≡ stepped Solid Quiet l
      → u ≡ with_foreign c p l.place → q ≡ with_saved u l.place → Steps InEntity l p b r q
  entity-past {x} {u} e n f d g =
      entity-of (Some Ended) (e ∙ ap Some n)
      (λ has past.
      let o = with_foreign c p l.place in
      meant-as f (g ∙ ap (λ (u : Places). with_saved u l.place) d)
      (record {
        place = refl;
        mode = (ap (λ (w : Run). in_data w 0) (sym (saved-run o l.place past)), has);
        event = refl;
        silent = inl refl;
        foreign = foreign-noted h p refl;
        lent = lent-next (lent-saved past (lent-same o refl h.lent));
      }))

  pub entity-stop : rest_after l.rest b ≡ None → r ≡ stepped Stopped Quiet l → q ≡ with_foreign c p l.place → Steps InEntity l p b r q
  entity-stop e f g = entity-of None e (λ has past. stops h f g)

  pub entity-more : {x : EntityRest} → rest_after l.rest b ≡ Some x → (x ≡ Ended → ⊥) → r ≡ entered x l → q ≡ with_foreign c p l.place
      → Steps InEntity l p b r q
  entity-more {x} e n f g =
      entity-of (Some x) e
      (λ has past. meant-of (ap goes (more_comes x p.at l.place (run_of p) n))
      (meant-as f g
      (record {
        place = refl;
        mode = (refl, has, n, past);
        event = refl;
        silent = inl refl;
        foreign = foreign-noted h p refl;
        lent = lent-next (lent-same _ refl h.lent);
      })))
