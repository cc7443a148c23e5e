-- The characters of a row's text: copied where its lengths are equal, else what its bytes stand for; they are as many as its decoded length, and pass 3 where
-- its bytes do.
use Rattle.std.specs.Prelude.{Bool, true, false, cond, not, ◌≡◌, refl, ℕ, T, eqb, length, take}
use mathlib.Core.List.{List, [], Memᴰ as In}
use Rattle.std.proofs.Common.{⊎_elim, sym, ap, ◌∙◌, arith, eqb→eq, length-take, length-drop}
use Rattle.std.proofs.Math.Dec.{eqb_refl}
use Rattle.std.proofs.Math.Seq.{take-nil, drop-nil}
use Rattle.schema_spec.specs.Names.{is_text}
use Rattle.schema_spec.specs.Types.{Types}
use Rattle.table_spec.specs.Conditions.{CopiedOrDecoded, is-copied, is-decoded, WellFormedBeside}
use Rattle.table_spec.specs.Rows.{Row, text_of, characters_by, characters_of}
use Rattle.text_laws.specs.Lists.{all_in, in_all}
use Rattle.text_laws.specs.Tests.{cond-true, cond-false, decided, not-intro, not-elim}
use Rattle.text_spec.specs.Bytes.{is_foreign}
use Rattle.text_spec.specs.Lists.{all_of}
use Rattle.token_laws.specs.Characters.{decodes-once, decodes-pieces, same-length-decode, decoded-pass}
use Rattle.token_spec.specs.Characters.{EntityFor, lt, gt, amp, apos, quot, decode}
use Rattle.token_spec.specs.Texts.{OneText}

-- beside no text a row has no characters
pub no-characters : (r : Row) → characters_of [] r ≡ []
unfolding characters_by decode
no-characters r = rw (drop-nil {A = ℕ} r.start, take-nil {A = ℕ} r.size) (both (eqb r.decoded r.size))
  where
    both : (b : Bool) → cond b (take {A = ℕ} 0 []) [] ≡ []
    both true = refl
    both false = refl

module _ (lent : List ℕ) (r : Row) where
  pub copied-characters : r.decoded ≡ r.size → characters_of lent r ≡ text_of lent r
  unfolding characters_by
  copied-characters e = cond-true (eqb r.decoded r.size) (text_of lent r) (decode (text_of lent r)) (rw e (eqb_refl r.size))

  pub decoded-characters : (r.decoded ≡ r.size → ⊥) → characters_of lent r ≡ decode (text_of lent r)
  unfolding characters_by
  decoded-characters n = cond-false (eqb r.decoded r.size) (text_of lent r) (decode (text_of lent r)) (λ t. n (eqb→eq r.decoded r.size t))

  -- what one journal text stands for is copied, too, where it is as long as the text
  pub text-characters : {v : List ℕ} → length (text_of lent r) ≡ r.size → OneText (text_of lent r) v → length v ≡ r.decoded → characters_of lent r ≡ v
  text-characters {v} size t e = ⊎_elim same other (decided (eqb r.decoded r.size))
    where
      stands : v ≡ decode (text_of lent r)
      stands = decodes-once t.stands

      same : T (eqb r.decoded r.size) → characters_of lent r ≡ v
      same u =
          let equal : r.decoded ≡ r.size = eqb→eq r.decoded r.size u in
          copied-characters equal ∙ sym (stands ∙ same-length-decode (decodes-pieces t.stands) (ap length (sym stands) ∙ e ∙ equal ∙ sym size))

      other : (T (eqb r.decoded r.size) → ⊥) → characters_of lent r ≡ v
      other n = decoded-characters (λ q. n (rw q (eqb_refl r.size))) ∙ sym stands

  pub characters-size : length (text_of lent r) ≡ r.size → CopiedOrDecoded lent r → length (characters_of lent r) ≡ r.decoded
  characters-size size (is-copied e) = ap length (copied-characters e) ∙ size ∙ sym e
  characters-size size (is-decoded t e) = ap length (text-characters size t e) ∙ e

  pub characters-pass : length (text_of lent r) ≡ r.size → CopiedOrDecoded lent r → T (all_of (λ b. not (is_foreign b)) (text_of lent r))
      → T (all_of (λ b. not (is_foreign b)) (characters_of lent r))
  characters-pass size (is-copied e) t = rw (copied-characters e) t
  characters-pass size (is-decoded w e) t = rw (text-characters size w e) (decoded-pass (λ b. not (is_foreign b)) five w.stands t)
    where
      five : (e : List ℕ) (c : ℕ) → EntityFor e c → T (not (is_foreign c))
      five e c lt = tt
      five e c gt = tt
      five e c amp = tt
      five e c apos = tt
      five e c quot = tt

-- in a table that is well formed beside a text the characters of a text row pass 3
pub characters-beside : {s : Types} {lent : List ℕ} {rows : List Row} → WellFormedBeside s lent rows → (r : Row) → In r rows → T (is_text r.name) → (b : ℕ)
    → In b (characters_of lent r) → T (is_foreign b) → ⊥
characters-beside {lent = lent} w r i t b j f =
    let range = w.inside r i t in
    let size : length (text_of lent r) ≡ r.size = simp (length-take, length-drop) (omega arith) in
    let raw = in_all (λ x. not (is_foreign x)) (text_of lent r) (λ x k. not-intro (is_foreign x) (w.passes r i t x k)) in
    not-elim (is_foreign b) (all_in (λ x. not (is_foreign x)) (characters-pass lent r size (w.spelt r i t) raw) j) f
