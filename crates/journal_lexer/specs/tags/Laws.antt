-- What each way out of a byte function for tags says of the definition's step.
use Rattle.std.specs.Prelude.{true, false, List, [], ◌∷◌, ◌++◌, ◌≡◌, ℕ, ◌+◌, T, length}
use Rattle.std.proofs.Common.{inl, subst, arith, length-append}
use Rattle.std.proofs.Math.Path.{refl}
use borrow.Author.Tests.{lt-ltb, le-ltb}
use Rattle.journal_lexer.specs.declared.kinds.ByteKind.{ByteKind}
use Rattle.journal_lexer.specs.declared.kinds.ByteKind.TheVariants.{Letter, Blank, Slash, Greater, Foreign}
use Rattle.journal_lexer.specs.declared.state.Event.TheVariants.{Quiet, Starts, Empties, Ends}
use Rattle.journal_lexer.specs.declared.state.Lex.{Lex}
use Rattle.journal_lexer.specs.declared.state.Mode.{Mode as CodeMode}
use Rattle.journal_lexer.specs.declared.state.Mode.TheVariants.{Between, Opened, InName, AfterName, AfterSlash, Ending, InEndName, AfterEndName, Stopped}
use Rattle.journal_lexer.specs.declared.state.Places.{Places}
use Rattle.journal_lexer.specs.declared.entities.EntityRest.{EntityRest}
use Rattle.journal_lexer.specs.kinds.Kinds.{continues_name_kind, lex_by, tag_by, end_tag_by, opened_by, slash_by, ending_by}
use Rattle.journal_lexer.specs.kinds.Laws.{name-filled}
use Rattle.journal_lexer.specs.state.Laws.{steps-by, leads, meant-of, foreign-same, goes-plain, tells-plain, stops}
use Rattle.journal_lexer.specs.state.Places.{with_foreign, lent-next}
use Rattle.journal_lexer.specs.state.Relation.{Holds, Means, Handed, Meant, Steps, stepped, named}
use Rattle.journal_lexer.specs.tags.Names.{Longer, fits, over}
use Rattle.text.specs.declared.name_words.Name.{Name}
use Rattle.text.specs.name_words.Words.{words_of}
use Rattle.text_laws.specs.Lists.{all_snoc}
use Rattle.text_laws.specs.Tests.{and_intro, never}
use Rattle.text_spec.specs.Bytes.{is_between}
use Rattle.text_spec.specs.Limits.{max_name_bytes}
use Rattle.text_spec.specs.Machines.{longer}
use Rattle.token_spec.specs.Lexer.{Mode, between, in_name, after_name, after_slash, ending, in_end_name, after_end_name, stopped, starts, empties, ends, goes, tells}

-- ---- kinds that are none of those that are told apart
module _ (at : ℕ) where
  tag-other : (n : List ℕ) (c : ByteKind) → (c ≡ Blank → ⊥) → (c ≡ Greater → ⊥) → (c ≡ Slash → ⊥) → tag_by at n c ≡ goes (stopped at)
  tag-other n Blank x y z = absurd (x refl)
  tag-other n Greater x y z = absurd (y refl)
  tag-other n Slash x y z = absurd (z refl)
  tag-other n c x y z = refl

  end-tag-other : (n : List ℕ) (c : ByteKind) → (c ≡ Blank → ⊥) → (c ≡ Greater → ⊥) → end_tag_by at n c ≡ goes (stopped at)
  end-tag-other n Blank x y = absurd (x refl)
  end-tag-other n Greater x y = absurd (y refl)
  end-tag-other n c x y = refl

  opened-other : (c : ByteKind) (b : ℕ) → (c ≡ Slash → ⊥) → (c ≡ Letter → ⊥) → opened_by at c b ≡ goes (stopped at)
  opened-other Slash b x y = absurd (x refl)
  opened-other Letter b x y = absurd (y refl)
  opened-other c b x y = refl

  slash-other : (n : List ℕ) (c : ByteKind) → (c ≡ Greater → ⊥) → slash_by at n c ≡ goes (stopped at)
  slash-other n Greater x = absurd (x refl)
  slash-other n c x = refl

  ending-other : (c : ByteKind) (b : ℕ) → (c ≡ Letter → ⊥) → ending_by at c b ≡ goes (stopped at)
  ending-other Letter b x = absurd (x refl)
  ending-other c b x = refl

name-not-foreign : (c : ByteKind) → continues_name_kind c ≡ true → c ≡ Foreign → ⊥
name-not-foreign c e f =
    let g : continues_name_kind c ≡ false = rw f in
    never (cc)

module _ {l : Lex} {p : Places} {b : ℕ} {c : ByteKind} (h : Handed l p b c) where
  -- a byte of a name is not 0
  filled : continues_name_kind c ≡ true → T (is_between 1 255 b)
  filled lt = name-filled b h.byte (subst (λ (x : ByteKind). continues_name_kind x ≡ true) h.kind lt)

  -- another name, one byte longer, by the mode that it is in
  name-goes : (mode : CodeMode) (tag : List ℕ → Mode) → ((w : Name) (k : ℕ) (n : List ℕ) → Holds w k n → (x : EntityRest) → Means mode w k x p (tag n))
      → continues_name_kind c ≡ true → (w : Name) (k : ℕ) (n : List ℕ) → Holds w k n → Meant l p b (named mode k w l) p (goes (tag n))
  name-goes mode tag means lt w k n g =
      record {
        place = refl;
        mode = means w k n g l.rest;
        event = refl;
        silent = inl refl;
        foreign = foreign-same h p (name-not-foreign c lt) refl;
        lent = lent-next h.lent;
      }

module _ {l : Lex} {p : Places} {b : ℕ} {c : ByteKind} (h : Handed l p b c) {r : Lex} where
  -- past the name of a start tag or an empty tag
  pub tag-blank : c ≡ Blank → r ≡ stepped AfterName Quiet l → (n : List ℕ) → Holds l.name l.count n → Meant l p b r p (tag_by p.at n c)
  tag-blank e f n g = rw (e, f) (goes-plain h AfterName (after_name p.at n) (λ z. (cc)) (n, refl, g))

  pub tag-closed : c ≡ Greater → r ≡ stepped Between Starts l → (n : List ℕ) → Holds l.name l.count n → Meant l p b r p (tag_by p.at n c)
  tag-closed e f n g = rw (e, f) (tells-plain h Between Starts (tells between (starts n p.at)) (λ z. (cc)) refl (n, refl, g.spelt) (inl refl))

  pub tag-slash : c ≡ Slash → r ≡ stepped AfterSlash Quiet l → (n : List ℕ) → Holds l.name l.count n → Meant l p b r p (tag_by p.at n c)
  tag-slash e f n g = rw (e, f) (goes-plain h AfterSlash (after_slash p.at n) (λ z. (cc)) (n, refl, g))

  pub tag-stop : {q : Places} → (c ≡ Blank → ⊥) → (c ≡ Greater → ⊥) → (c ≡ Slash → ⊥) → r ≡ stepped Stopped Quiet l → q ≡ with_foreign c p l.place
      → (n : List ℕ) → Meant l p b r q (tag_by p.at n c)
  tag-stop x y z e f n = meant-of (tag-other p.at n c x y z) (stops h e f)

  -- past the name of an end tag
  pub end-blank : c ≡ Blank → r ≡ stepped AfterEndName Quiet l → (n : List ℕ) → Holds l.name l.count n → Meant l p b r p (end_tag_by p.at n c)
  end-blank e f n g = rw (e, f) (goes-plain h AfterEndName (after_end_name p.at n) (λ z. (cc)) (n, refl, g))

  pub end-closed : c ≡ Greater → r ≡ stepped Between Ends l → (n : List ℕ) → Holds l.name l.count n → Meant l p b r p (end_tag_by p.at n c)
  end-closed e f n g = rw (e, f) (tells-plain h Between Ends (tells between (ends n p.at)) (λ z. (cc)) refl (n, refl, g.spelt) (inl refl))

  pub end-stop : {q : Places} → (c ≡ Blank → ⊥) → (c ≡ Greater → ⊥) → r ≡ stepped Stopped Quiet l → q ≡ with_foreign c p l.place
      → (n : List ℕ) → Meant l p b r q (end_tag_by p.at n c)
  end-stop x y e f n = meant-of (end-tag-other p.at n c x y) (stops h e f)

  -- in a name, by the mode that it is in
  module _ (mode : CodeMode) (tag : List ℕ → Mode) (means : (w : Name) (k : ℕ) (n : List ℕ) → Holds w k n → (x : EntityRest) → Means mode w k x p (tag n)) where
    name-longer : {n : List ℕ} → continues_name_kind c ≡ true → Longer mode l n b r → Holds l.name l.count n → Meant l p b r p (goes (longer (stopped p.at) n b tag))
    name-longer {n} lt (fits room w e f) g =
        rw (f, lt-ltb (length n) max_name_bytes room)
        (name-goes h mode tag means lt w (l.count + 1) (n ++ (b ∷ []))
        (record {
          spelt = record { spelt = e; short = simp length-append (omega arith); filled = all_snoc (is_between 1 255) n b g.spelt.filled (filled h lt) };
          counted = simp length-append (omega (arith, g.counted));
        }))
    name-longer {n} lt (over long f) g =
        rw (f, le-ltb (length n) max_name_bytes long) (goes-plain h Stopped (stopped p.at) (name-not-foreign c lt) refl)

    name-first : c ≡ Letter → r ≡ named mode 1 (words_of (b ∷ [])) l → Meant l p b r p (goes (tag (b ∷ [])))
    name-first e f =
        rw f
        (name-goes h mode tag means (rw e) (words_of (b ∷ [])) 1 (b ∷ [])
        (record {
          spelt = record { spelt = refl; short = omega arith; filled = and_intro (is_between 1 255 b) _ (filled h (rw e)) tt };
          counted = refl;
        }))

  -- after `<`
  pub opened-slash : c ≡ Slash → r ≡ stepped Ending Quiet l → Steps Opened l p b r p
  unfolding lex_by
  opened-slash e f = steps-by h Opened (λ m w. leads h w (rw (e, f) (goes-plain h Ending (ending p.at) (λ z. (cc)) refl)))

  pub opened-letter : c ≡ Letter → r ≡ named InName 1 (words_of (b ∷ [])) l → Steps Opened l p b r p
  unfolding lex_by
  opened-letter e f = steps-by h Opened (λ m w. leads h w (rw e (name-first InName (in_name p.at) (λ w k n g x. (n, refl, g)) e f)))

  pub opened-stop : {q : Places} → (c ≡ Slash → ⊥) → (c ≡ Letter → ⊥) → r ≡ stepped Stopped Quiet l → q ≡ with_foreign c p l.place → Steps Opened l p b r q
  unfolding lex_by
  opened-stop x y e f = steps-by h Opened (λ m w. leads h w (meant-of (opened-other p.at c b x y) (stops h e f)))

  -- after `</`
  pub ending-letter : c ≡ Letter → r ≡ named InEndName 1 (words_of (b ∷ [])) l → Steps Ending l p b r p
  unfolding lex_by
  ending-letter e f = steps-by h Ending (λ m w. leads h w (rw e (name-first InEndName (in_end_name p.at) (λ w k n g x. (n, refl, g)) e f)))

  pub ending-stop : {q : Places} → (c ≡ Letter → ⊥) → r ≡ stepped Stopped Quiet l → q ≡ with_foreign c p l.place → Steps Ending l p b r q
  unfolding lex_by
  ending-stop y e f = steps-by h Ending (λ m w. leads h w (meant-of (ending-other p.at c b y) (stops h e f)))

  -- in a name
  pub in-name-longer : continues_name_kind c ≡ true → ((n : List ℕ) → Holds l.name l.count n → Longer InName l n b r) → Steps InName l p b r p
  unfolding lex_by
  in-name-longer lt g =
      steps-by h InName
      (λ m w. leads h w.1 (rw lt (name-longer InName (in_name p.at) (λ w k n g x. (n, refl, g)) lt (g w.0 w.2) w.2)))

  pub in-name-past : {q : Places} → continues_name_kind c ≡ false → ((n : List ℕ) → Holds l.name l.count n → Meant l p b r q (tag_by p.at n c)) → Steps InName l p b r q
  unfolding lex_by
  in-name-past le f = steps-by h InName (λ m w. leads h w.1 (rw le (f w.0 w.2)))

  pub in-end-name-longer : continues_name_kind c ≡ true → ((n : List ℕ) → Holds l.name l.count n → Longer InEndName l n b r) → Steps InEndName l p b r p
  unfolding lex_by
  in-end-name-longer lt g =
      steps-by h InEndName
      (λ m w. leads h w.1 (rw lt (name-longer InEndName (in_end_name p.at) (λ w k n g x. (n, refl, g)) lt (g w.0 w.2) w.2)))

  pub in-end-name-past : {q : Places} → continues_name_kind c ≡ false → ((n : List ℕ) → Holds l.name l.count n → Meant l p b r q (end_tag_by p.at n c))
      → Steps InEndName l p b r q
  unfolding lex_by
  in-end-name-past le f = steps-by h InEndName (λ m w. leads h w.1 (rw le (f w.0 w.2)))

  -- after a name
  pub after-name-past : {q : Places} → ((n : List ℕ) → Holds l.name l.count n → Meant l p b r q (tag_by p.at n c)) → Steps AfterName l p b r q
  unfolding lex_by
  after-name-past f = steps-by h AfterName (λ m w. leads h w.1 (f w.0 w.2))

  pub after-end-name-past : {q : Places} → ((n : List ℕ) → Holds l.name l.count n → Meant l p b r q (end_tag_by p.at n c))
      → Steps AfterEndName l p b r q
  unfolding lex_by
  after-end-name-past f = steps-by h AfterEndName (λ m w. leads h w.1 (f w.0 w.2))

  -- after the `/` of an empty tag
  pub slash-closed : c ≡ Greater → r ≡ stepped Between Empties l → Steps AfterSlash l p b r p
  unfolding lex_by
  slash-closed e f =
      steps-by h AfterSlash
      (λ m w. leads h w.1
      (rw (e, f) (tells-plain h Between Empties (tells between (empties w.0 p.at)) (λ z. (cc)) refl (w.0, refl, w.2.spelt) (inl refl))))

  pub slash-stop : {q : Places} → (c ≡ Greater → ⊥) → r ≡ stepped Stopped Quiet l → q ≡ with_foreign c p l.place → Steps AfterSlash l p b r q
  unfolding lex_by
  slash-stop x e f = steps-by h AfterSlash (λ m w. leads h w.1 (meant-of (slash-other p.at w.0 c x) (stops h e f)))

  -- misspelt
  pub stopped-stop : {q : Places} → r ≡ stepped Stopped Quiet l → q ≡ with_foreign c p l.place → Steps Stopped l p b r q
  unfolding lex_by
  stopped-stop e f = steps-by h Stopped (λ m w. leads h w (stops h e f))
