-- What each way out of a byte function for character data says of the definition's step.
use Rattle.std.specs.Prelude.{true, false, ◌≡◌, refl, ℕ, zero, suc, ◌-◌}
use Rattle.std.proofs.Math.Logic.{inl, inr}
use Rattle.std.proofs.Math.Option.{none}
use Rattle.std.proofs.Common.{sym, ◌∙◌, arith, le-leb}
use Rattle.std.proofs.Math.Path.{ap}
use Rattle.journal_lexer.specs.character_data.Runs.{plain_after, Plain}
use Rattle.journal_lexer.specs.declared.kinds.ByteKind.{ByteKind}
use Rattle.journal_lexer.specs.declared.kinds.ByteKind.TheVariants.{Blank, Greater, Less, Ampersand, Bracket}
use Rattle.journal_lexer.specs.declared.entities.EntityRest.TheVariants.{All}
use Rattle.journal_lexer.specs.declared.state.Event.TheVariants.{Quiet, Runs}
use Rattle.journal_lexer.specs.declared.state.Lex.{Lex}
use Rattle.journal_lexer.specs.declared.state.Mode.TheVariants.{Between, Blanks, Solid, AfterBracket, AfterBrackets, Opened, Stopped}
use Rattle.journal_lexer.specs.declared.state.Places.{Places}
use Rattle.journal_lexer.specs.entities.Rests.{rests_of}
use Rattle.journal_lexer.specs.kinds.Kinds.{is_plain_kind, lex_by, data_by, between_by, run_by}
use Rattle.journal_lexer.specs.state.Laws.{meant-as, meant-of, steps-by, leads, foreign-same, goes-plain, goes-noted}
use Rattle.journal_lexer.specs.state.Places.{run_of, HasSolid, with_tag, with_foreign, not-foreign, solid-stays, blank-run, lent-next, lent-same, lent-cleared}
use Rattle.journal_lexer.specs.state.Relation.{stepped, entered, Handed, Meant, Steps}
use Rattle.text_laws.specs.Tests.{never}
use Rattle.token_spec.specs.Lexer.{Run, run, Mode, in_data, in_entity, stopped, goes, solid_by}

-- ---- kinds that are none of those that are told apart
between-other : (k : ℕ) (c : ByteKind) → (c ≡ Less → ⊥) → between_by k c ≡ goes (data_by (run k none 0) 0 k c)
between-other k Less n = absurd (n refl)
between-other k c n = refl

run-other : (r : Run) (n k : ℕ) (c : ByteKind) → (c ≡ Less → ⊥) → run_by r n k c ≡ goes (data_by r n k c)
run-other r n k Less x = absurd (x refl)
run-other r n k c x = refl

-- a run that begins with a byte that is told apart from no other
pub begun-other : (r : Run) (k : ℕ) (c : ByteKind) → (c ≡ Blank → ⊥) → (c ≡ Ampersand → ⊥) → (c ≡ Bracket → ⊥) → data_by r 0 k c ≡ in_data (solid_by r k) 0
begun-other r k Blank x y z = absurd (x refl)
begun-other r k Ampersand x y z = absurd (y refl)
begun-other r k Bracket x y z = absurd (z refl)
begun-other r k c x y z = refl

-- in a run that has a byte that is not a blank
plain-other : (r : Run) (n k : ℕ) (c : ByteKind) → solid_by r k ≡ r → plain_after n c ≡ true → (c ≡ Ampersand → ⊥) → (c ≡ Bracket → ⊥) → data_by r n k c ≡ in_data r 0
plain-other r n k Blank e t x y = refl
plain-other r n k Ampersand e t x y = absurd (x refl)
plain-other r n k Bracket e t x y = absurd (y refl)
plain-other r zero k Greater e t x y = ap (λ (z : Run). in_data z 0) e
plain-other r (suc zero) k Greater e t x y = ap (λ (z : Run). in_data z 0) e
plain-other r (suc (suc n)) k Greater e t x y = never (cc)
plain-other r n k c e t x y = ap (λ (z : Run). in_data z 0) e

after_one : (c : ByteKind) → (c ≡ Bracket → ⊥) → plain_after 1 c ≡ true
after_one Bracket x = absurd (x refl)
after_one c x = refl

after_more : (n : ℕ) (c : ByteKind) → (c ≡ Bracket → ⊥) → (c ≡ Greater → ⊥) → plain_after (suc (suc n)) c ≡ true
after_more n Bracket x y = absurd (x refl)
after_more n Greater x y = absurd (y refl)
after_more n c x y = refl

kinds_differ : {c d : ByteKind} → is_plain_kind c ≡ true → is_plain_kind d ≡ false → c ≡ d → ⊥
kinds_differ {c} {d} t f e =
    let g : is_plain_kind c ≡ is_plain_kind d = ap is_plain_kind e in
    never (cc)

-- what is handed on where a run begins
pub handed-cleared : {l : Lex} {p : Places} {b : ℕ} {c : ByteKind} → Handed l p b c → Handed l (record p { saved = 0 }) b c
handed-cleared {l} {p} h = record { room = h.room; lent = lent-cleared l.place p; byte = h.byte; kind = h.kind }

-- a `<`, with an event or without
module _ {l : Lex} {p : Places} {b : ℕ} {c : ByteKind} (h : Handed l p b c) {r : Lex} {q : Places} (e : c ≡ Less) (g : q ≡ with_tag p l.place) where
  pub less-between : r ≡ stepped Opened Quiet l → Steps Between l p b r q
  unfolding lex_by
  less-between f =
      steps-by h Between
      (λ m w. leads h w
      (rw (f, g, e)
      (record {
        place = refl;
        mode = refl;
        event = refl;
        silent = inl refl;
        foreign = foreign-same h p (λ z. (cc)) refl;
        lent = lent-next (lent-same _ refl h.lent);
      })))

  pub less-run : r ≡ stepped Opened Runs l → (n : ℕ) → Meant l p b r q (lex_by (in_data (run_of p) n) l.place c b)
  unfolding lex_by
  less-run f n =
      rw (f, g, e)
      (record {
        place = refl;
        mode = refl;
        event = refl;
        silent = inr (inr refl);
        foreign = foreign-same h p (λ z. (cc)) refl;
        lent = lent-next (lent-same _ refl h.lent);
      })

module _ {l : Lex} {p : Places} {b : ℕ} {c : ByteKind} (h : Handed l p b c) {r : Lex} {q : Places} (n : c ≡ Less → ⊥) where
  -- a run that begins has saved nothing
  pub between-data : Meant l (record p { saved = 0 }) b r q (goes (data_by (run l.place none 0) 0 l.place c)) → Steps Between l p b r q
  unfolding lex_by
  between-data g =
      steps-by h Between
      (λ m w. leads h w
      (meant-of (between-other l.place c n)
      (record { place = g.place; mode = g.mode; event = g.event; silent = g.silent; foreign = g.foreign; lent = g.lent })))

  pub blanks-data : Meant l p b r q (goes (data_by (run p.start none p.saved) 0 l.place c)) → Steps Blanks l p b r q
  unfolding lex_by
  blanks-data g =
      steps-by h Blanks
      (λ m w. leads h w.0
      (meant-of (run-other (run_of p) 0 l.place c n) (meant-of (ap (λ (x : Run). goes (data_by x 0 l.place c)) (blank-run p w.1)) g)))

-- after n brackets, in a run that has a byte that is not a blank
module _ {l : Lex} {p : Places} {b : ℕ} {c : ByteKind} (h : Handed l p b c) (n : ℕ) where
  -- what the byte is, where it is no `<`
  data_of : {r : Lex} {q : Places} {m : Mode} → (c ≡ Less → ⊥) → data_by (run_of p) n l.place c ≡ m → Meant l p b r q (goes m)
      → Meant l p b r q (lex_by (in_data (run_of p) n) l.place c b)
  unfolding lex_by
  data_of x e g = meant-of (run-other (run_of p) n l.place c x ∙ ap goes e) g

module _ {l : Lex} {p : Places} {b : ℕ} {c : ByteKind} (h : Handed l p b c) (n : ℕ) (has : HasSolid p) where
  stays_solid : solid_by (run_of p) l.place ≡ run_of p
  stays_solid = solid-stays p l.place has

  bracket-data : c ≡ Bracket → data_by (run_of p) n l.place c ≡ in_data (run_of p) (suc n)
  bracket-data e = rw e (ap (λ (z : Run). in_data z (suc n)) stays_solid)

  entity-data : c ≡ Ampersand → data_by (run_of p) n l.place c ≡ in_entity (rests_of All) l.place (run_of p)
  entity-data e = rw e (ap (in_entity (rests_of All) l.place) stays_solid)

closing-data : {c : ByteKind} (r : Run) (n k : ℕ) → c ≡ Greater → data_by r (suc (suc n)) k c ≡ stopped (k - 2)
closing-data r n k e = rw (e, le-leb 2 (suc (suc n)) (omega arith)) refl

-- a byte that is read as after no bracket
module _ {l : Lex} {p : Places} {b : ℕ} {c : ByteKind} (h : Handed l p b c) {r : Lex} where
  pub plain-opens : {q : Places} → c ≡ Less → q ≡ with_tag p l.place → r ≡ stepped Opened Runs l → Plain l p b c r q
  plain-opens e g f = record { plain = λ n has t. less-run h e g f n }

  pub plain-entity : {q : Places} → c ≡ Ampersand → r ≡ entered All l → q ≡ with_tag p l.place → Plain l p b c r q
  plain-entity e f g =
      record {
        plain = λ n has t.
            data_of h n (λ z. (cc)) (entity-data h n has e)
            (rw (f, g)
            (record {
              place = refl;
              mode = (refl, has, (λ z. (cc)), h.lent.few);
              event = refl;
              silent = inl refl;
              foreign = foreign-same h p (λ z. (cc)) refl;
              lent = lent-next (lent-same _ refl h.lent);
            }));
      }

  pub plain-bracket : c ≡ Bracket → r ≡ stepped AfterBracket Quiet l → Plain l p b c r p
  plain-bracket e f =
      record {
        plain = λ n has t.
            data_of h n (λ z. (cc)) (bracket-data h n has e ∙ ap (λ (z : ℕ). in_data (run_of p) (suc z)) (none_yet n (rw e at t)))
            (rw f (goes-plain h AfterBracket (in_data (run_of p) 1) (λ z. (cc)) (refl, has)));
      }
    where
      none_yet : (n : ℕ) → plain_after n Bracket ≡ true → n ≡ 0
      none_yet zero t = refl
      none_yet (suc n) t = never (cc)

  pub plain-noted : {q : Places} → (c ≡ Less → ⊥) → (c ≡ Ampersand → ⊥) → (c ≡ Bracket → ⊥) → r ≡ stepped Solid Quiet l → q ≡ with_foreign c p l.place
      → Plain l p b c r q
  plain-noted x y z f g =
      record {
        plain = λ n has t.
            data_of h n x (plain-other (run_of p) n l.place c (solid-stays p l.place has) t y z)
            (meant-as f g (goes-noted h Solid (in_data (run_of p) 0) (refl, has)));
      }

  pub plain-same : is_plain_kind c ≡ true → r ≡ stepped Solid Quiet l → Plain l p b c r p
  plain-same t f =
      plain-noted (λ e. kinds_differ t refl e) (λ e. kinds_differ t refl e) (λ e. kinds_differ t refl e) f
      (sym (not-foreign c p l.place (λ e. kinds_differ t refl e)))

  -- the modes
  pub solid-plain : {q : Places} → Plain l p b c r q → Steps Solid l p b r q
  solid-plain g = steps-by h Solid (λ m w. leads h w.0 (g.plain 0 w.1 refl))

  pub bracket-plain : {q : Places} → (c ≡ Bracket → ⊥) → Plain l p b c r q → Steps AfterBracket l p b r q
  bracket-plain x g = steps-by h AfterBracket (λ m w. leads h w.0 (g.plain 1 w.1 (after_one c x)))

  pub brackets-plain : {q : Places} → (c ≡ Bracket → ⊥) → (c ≡ Greater → ⊥) → Plain l p b c r q → Steps AfterBrackets l p b r q
  brackets-plain x y g = steps-by h AfterBrackets (λ m w. leads h w.1 (g.plain (suc (suc w.0)) w.2 (after_more w.0 c x y)))

  -- one more bracket
  more-brackets : (n : ℕ) → HasSolid p → c ≡ Bracket → r ≡ stepped AfterBrackets Quiet l → Meant l p b r p (lex_by (in_data (run_of p) (suc n)) l.place c b)
  more-brackets n has e f =
      data_of h (suc n) (λ z. (cc)) (bracket-data h (suc n) has e)
      (rw f (goes-plain h AfterBrackets (in_data (run_of p) (suc (suc n))) (λ z. (cc)) (n, refl, has)))

  pub bracket-more : c ≡ Bracket → r ≡ stepped AfterBrackets Quiet l → Steps AfterBracket l p b r p
  bracket-more e f = steps-by h AfterBracket (λ m w. leads h w.0 (more-brackets 0 w.1 e f))

  pub brackets-more : c ≡ Bracket → r ≡ stepped AfterBrackets Quiet l → Steps AfterBrackets l p b r p
  brackets-more e f = steps-by h AfterBrackets (λ m w. leads h w.1 (more-brackets (suc w.0) w.2 e f))

  -- the end of `]]>`
  pub brackets-closing : (x : ℕ) → x ≡ l.place - 2 → c ≡ Greater → r ≡ stepped Stopped Quiet l → Steps AfterBrackets l p b r (with_tag p x)
  brackets-closing x d e f =
      steps-by h AfterBrackets
      (λ m w. leads h w.1
      (data_of h (suc (suc w.0)) (λ z. (cc)) (closing-data (run_of p) w.0 l.place e)
      (rw f
      (record {
        place = refl;
        mode = ap stopped (sym d);
        event = refl;
        silent = inl refl;
        foreign = foreign-same h p (λ z. (cc)) refl;
        lent = lent-next (lent-same _ refl h.lent);
      }))))

  pub blanks-less : {q : Places} → c ≡ Less → q ≡ with_tag p l.place → r ≡ stepped Opened Runs l → Steps Blanks l p b r q
  blanks-less e g f = steps-by h Blanks (λ m w. leads h w.0 (less-run h e g f 0))
