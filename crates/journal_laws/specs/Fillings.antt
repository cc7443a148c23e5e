-- Open elements of a text that is accepted in the end: their contents can be completed, so a parent holds each child.
use Rattle.std.specs.Prelude.{Bool, true, false, ◌≡◌, refl, ℕ, T, eqb}
use mathlib.Core.List.{List, [], ◌∷◌, Memᴰ as In}
use Rattle.std.proofs.Math.Option.{some}
use Rattle.std.proofs.Common.{sym, ap, subst, ◌∙◌}
use Rattle.std.proofs.Math.Dec.{eqb_refl}
use Rattle.journal_laws.specs.Derivations.{Derives, finished, root-begins, child-begins, element-ends, blanks-outside, run_inside, text-inside}
use Rattle.journal_laws.specs.Progress.{names_of, started-names, advance-names, completed-name}
use Rattle.journal_spec.specs.Builder.{Filling, unjudged, misfit, unfilled, filled_by_text, filled_by_children, filling_of, with_child, with_run, fits_at_end, Open, refill}
use Rattle.schema_spec.specs.Models.{Particle, Content, empty, pcdata, children, uses, uses_in, Progress, complete, advance_all}
use Rattle.schema_spec.specs.Names.{element, text}
use Rattle.schema_spec.specs.Schemas.{Schema, content_at, is_pcdata}
use Rattle.schema_spec.specs.Types.{holds}
use Rattle.table_spec.specs.Rows.{Row}
use Rattle.text_laws.specs.Lists.{any-in}
use Rattle.text_laws.specs.Tests.{and_intro, never}
use Rattle.text_spec.specs.Lists.{is_none}
use Rattle.token_spec.specs.Lexer.{Event}

-- more children can make the content fit
pub data Completable : Filling → Type 0 where
  while-unjudged : Completable unjudged
  while-unfilled : Completable unfilled
  while-text : {e : ℕ} → Completable (filled_by_text e)
  by-children : {q : Progress} (w : List ℕ) → T (complete (advance_all q w)) → Completable (filled_by_children q)

pub data AllCompletable : List Open → Type 0 where
  none_open : AllCompletable []
  and-open : {o : Open} {os : List Open} → Completable o.filling → AllCompletable os → AllCompletable (o ∷ os)

misfit-stays : Completable misfit → ⊥
misfit-stays h = elim h [ ]

completable-child : (a : ℕ) (f : Filling) → Completable (with_child (some a) f) → Completable f
completable-child a unjudged h = h
completable-child a misfit h = h
completable-child a unfilled h = while-unfilled
completable-child a (filled_by_text e) h = while-text
completable-child a (filled_by_children q) (by-children w t) = by-children (a ∷ w) t

completable-run : (b : Bool) (f : Filling) → Completable (with_run b f) → Completable f
completable-run b unjudged h = h
completable-run b misfit h = h
completable-run b unfilled h = while-unfilled
completable-run b (filled_by_text e) h = h
completable-run true (filled_by_children q) h = h
completable-run false (filled_by_children q) h = absurd (misfit-stays h)

completable-end : (f : Filling) → T (fits_at_end f) → Completable f
completable-end unjudged t = while-unjudged
completable-end misfit t = absurd t
completable-end unfilled t = while-unfilled
completable-end (filled_by_text e) t = while-text
completable-end (filled_by_children q) t = by-children [] t

without-run : (b : Bool) {o : Open} {os : List Open} → AllCompletable (refill (with_run b) (o ∷ os)) → AllCompletable (o ∷ os)
without-run b {o} (and-open c h) = and-open (completable-run b o.filling c) h

without-child : (a : ℕ) {x o : Open} {os : List Open} → AllCompletable (x ∷ refill (with_child (some a)) (o ∷ os)) → AllCompletable (o ∷ os)
without-child a {o = o} (and-open c (and-open d h)) = and-open (completable-child a o.filling d) h

-- since each open element will end with a content that fits
pub all-completable : {s : Schema} {final : List Row} {t : Bool} {es : List Event} {os : List Open} {rooted : Bool} {rs : List Row} {n : ℕ}
    → Derives s final t es os rooted rs n → AllCompletable os
all-completable finished = none_open
all-completable (root-begins e l d) = none_open
all-completable (child-begins {e = a} e m l d) = without-child a (all-completable d)
all-completable (element-ends {o = o} e f d) = and-open (completable-end o.filling f) (all-completable d)
all-completable (blanks-outside e d) = none_open
all-completable (run_inside {r = r} e d) = without-run (is_none r.solid) (all-completable d)
all-completable (text-inside {r = r} e p l m d) = without-run (is_none r.solid) (all-completable d)

pub parent-completable : (a : ℕ) (o : Open) {x : Open} {os : List Open} → AllCompletable (x ∷ refill (with_child (some a)) (o ∷ os)) → Completable (with_child (some a) o.filling)
parent-completable a o (and-open c (and-open d h)) = d

-- ---- a content against what is declared of the element with this index

pub data Fills (s : Schema) (e : ℕ) : Filling → Type 0 where
  fills-not : Fills s e misfit
  fills-empty : Fills s e unfilled
  fills-text : content_at s e ≡ pcdata → Fills s e (filled_by_text e)
  fills-children : {p : Particle ℕ} {q : Progress} → content_at s e ≡ children p → names_of q ≡ uses p → Fills s e (filled_by_children q)

pub fills-begun : (s : Schema) (e : ℕ) → Fills s e (filling_of e (content_at s e))
fills-begun s e = by (content_at s e) refl
  where
    by : (c : Content ℕ) → content_at s e ≡ c → Fills s e (filling_of e c)
    by empty h = fills-empty
    by pcdata h = fills-text h
    by (children p) h = fills-children h (started-names p)

pub fills-child : {s : Schema} {e : ℕ} (a : ℕ) {f : Filling} → Fills s e f → Fills s e (with_child (some a) f)
fills-child a fills-not = fills-not
fills-child a fills-empty = fills-not
fills-child a (fills-text h) = fills-not
fills-child a (fills-children {q = q} h n) = fills-children h (advance-names q a ∙ n)

pub fills-run : {s : Schema} {e : ℕ} (b : Bool) {f : Filling} → Fills s e f → Fills s e (with_run b f)
fills-run b fills-not = fills-not
fills-run b fills-empty = fills-not
fills-run b (fills-text h) = fills-text h
fills-run true (fills-children h n) = fills-children h n
fills-run false (fills-children h n) = fills-not

-- a child after which the content can be completed is held by its parent
pub child-held : (s : Schema) (e a : ℕ) {f : Filling} → Fills s e f → Completable (with_child (some a) f) → T (holds s (element e) (element a))
unfolding holds
child-held s e a fills-not c = absurd (misfit-stays c)
child-held s e a fills-empty c = absurd (misfit-stays c)
child-held s e a (fills-text h) c = absurd (misfit-stays c)
child-held s e a (fills-children {q = q} h n) (by-children w t) =
    any-in (eqb a) (subst (λ (l : List ℕ). In a l) (n ∙ sym (ap uses_in h)) (completed-name q a w t)) (eqb_refl a)

pub text-held : (s : Schema) (e a : ℕ) {f : Filling} → Fills s e f → f ≡ filled_by_text a → T (holds s (element e) (text a))
unfolding holds
text-held s e a fills-not h =
    never (cc)
text-held s e a fills-empty h =
    never (cc)
text-held s e a (fills-text c) h =
    let z : e ≡ a = cc in
    and_intro (eqb e a) (is_pcdata (content_at s e)) (subst (λ (x : ℕ). T (eqb e x)) z (eqb_refl e)) (rw c tt)
text-held s e a (fills-children c n) h =
    never (cc)
