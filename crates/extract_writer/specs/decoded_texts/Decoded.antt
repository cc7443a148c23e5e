-- The characters of a journal's text, written one after the other: how far writing has come.
use Rattle.std.specs.Prelude.{Bool, cond, ◌≡◌, refl, Option, Some, None, get_or}
use mathlib.Core.List.{List, [], ◌∷◌, ◌++◌}
use Rattle.std.proofs.Common.{sym, subst, ◌∙◌, take_all, add-one, arith, eq-eqb, ne_eqb, length-append, append_assoc, drop-cons}
use Rattle.std.proofs.Math.Path.{ap, ap₂}
use Prim.Native.Nat.{ℕ, zero, suc, ◌+◌, ◌-◌, ◌≤◌, ◌<◌}
use Rattle.std.proofs.Math.ListN.{length, take, drop, length-drop}
use Rattle.extract_writer.specs.declared.writers.Writer.{Writer}
use Rattle.extract_writer.specs.fields.Fields.{whole_characters}
use Rattle.extract_writer.specs.writers.Writers.{Puts, puts-nothing, puts-then, puts-as, puts-length}
use Rattle.journal_lexer.specs.whole_entities.Entities.{begins_at, EntityAfter, whole, itself, whole_split, whole-inside}
use Rattle.table_spec.specs.Rows.{characters_by}
use Rattle.token_laws.specs.Characters.{decode-entity, decode-other, decode-filled}
use Rattle.token_spec.specs.Characters.{decode}

-- ---- definitions
-- the bytes before the first `&`, or no `&` at all
abbrev pub FirstAmpersand : List ℕ → Option ℕ → Type 0
FirstAmpersand t None = (k : ℕ) → k < length t → get_or t k 0 ≡ 0x26 → ⊥
FirstAmpersand t (Some n) = (n < length t) × (get_or t n 0 ≡ 0x26) × ((k : ℕ) → k < n → get_or t k 0 ≡ 0x26 → ⊥)

-- the bytes from a place up to another stand for a character, and it is written
pub record CharacterPut (t : List ℕ) (i : ℕ) (old : Writer) (next : ℕ) (new : Writer) : Type 0 where
  pub character : ℕ
  pub decoded : decode (drop i t) ≡ character ∷ decode (drop next t)
  pub past : i < next
  pub inside : next ≤ length t
  pub written : Puts old (character ∷ []) new

-- the characters of a text are written but for those of the rest of it
pub record Decoding (t rest : List ℕ) (old new : Writer) : Type 0 where
  pub done : List ℕ
  pub whole-text : decode t ≡ done ++ decode rest
  pub written : Puts old done new

-- ---- one character
module _ (t : List ℕ) (i : ℕ) (l : i < length t) (e : get_or t i 0 ≡ 0x26) (old new : Writer) where
  amp : drop i t ≡ 0x26 ∷ drop (i + 1) t
  amp = drop-cons t i 0 l ∙ ap₂ (λ (x k : ℕ). x ∷ drop k t) e (sym (add-one i))

  pub entity-put : {c next : ℕ} → EntityAfter t (i + 1) c next → Puts old (c ∷ []) new → CharacterPut t i old next new
  unfolding begins_at decode
  entity-put {c} {next} (whole u f begins q) p =
      record {
        character = c;
        decoded =
            ap decode amp ∙ ap (λ (w : List ℕ). decode (0x26 ∷ w)) (whole_split t (i + 1) u begins) ∙ decode-entity (drop (i + 1 + length u) t) f
            ∙ ap (λ (k : ℕ). c ∷ decode (drop k t)) (sym q);
        past = omega arith;
        inside = omega (arith, whole-inside t (i + 1) u begins f);
        written = p;
      }
  entity-put {c} {next} (itself n a b d q) p =
      record {
        character = c;
        decoded = ap decode amp ∙ rw (a, b, n.amp, n.apos, n.quot) (ap₂ (λ (x k : ℕ). x ∷ decode (drop k t)) (sym d) (sym q));
        past = omega arith;
        inside = omega arith;
        written = p;
      }

-- ---- plain bytes
decode-none : decode [] ≡ []
unfolding decode
decode-none = refl

plain-run : (w : List ℕ) (n : ℕ) → n ≤ length w → ((k : ℕ) → k < n → get_or w k 0 ≡ 0x26 → ⊥) → decode w ≡ take n w ++ decode (drop n w)
plain-run w zero l f = refl
plain-run [] (suc n) l f = absurd (omega arith)
plain-run (b ∷ w) (suc n) l f =
    decode-other b w (ne_eqb b 0x26 (f 0 (omega arith))) ∙ ap (λ (u : List ℕ). b ∷ u) (plain-run w n (omega arith) (λ k h. f (suc k) (omega arith)))

plain-all : (w : List ℕ) → ((k : ℕ) → k < length w → get_or w k 0 ≡ 0x26 → ⊥) → decode w ≡ w
plain-all [] f = decode-none
plain-all (b ∷ w) f =
    decode-other b w (ne_eqb b 0x26 (f 0 (omega arith))) ∙ ap (λ (u : List ℕ). b ∷ u) (plain-all w (λ k h. f (suc k) (omega arith)))

-- ---- all characters
rejoined : (xs ys : List ℕ) (x : ℕ) (zs : List ℕ) → xs ++ (ys ++ (x ∷ zs)) ≡ ((xs ++ ys) ++ (x ∷ [])) ++ zs
rejoined xs ys x zs = sym (append_assoc (xs ++ ys) (x ∷ []) zs ∙ append_assoc xs ys (x ∷ zs))

pub decoding-none : (t : List ℕ) (w : Writer) → Decoding t t w w
decoding-none t w = record { done = []; whole-text = refl; written = puts-nothing w }

module _ {t rest : List ℕ} {old new : Writer} (h : Decoding t rest old new) where
  -- there is room for what is still to be written
  pub decoding-room : old.at + length (decode t) ≤ length old.out.now → new.at + length (decode rest) ≤ length new.out.now
  decoding-room r = omega (arith, h.written.after, puts-length h.written, ap length h.whole-text, length-append h.done (decode rest))

  -- no `&` is left
  pub rest-plain : FirstAmpersand rest None → decode rest ≡ rest
  rest-plain f = plain-all rest f

  pub decoding-all : FirstAmpersand rest None → (w : Writer) → Puts new rest w → Puts old (decode t) w
  decoding-all f w p = puts-as (ap (λ (u : List ℕ). h.done ++ u) (sym (rest-plain f)) ∙ sym h.whole-text) (puts-then h.written p)

  -- in each turn plain bytes and a character
  module _ (n : ℕ) (f : FirstAmpersand rest (Some n)) where
    run : decode rest ≡ take n rest ++ decode (drop n rest)
    run = plain-run rest n (omega (arith, f.0)) f.2

    pub plain-room : old.at + length (decode t) ≤ length old.out.now → new.at + length (take n rest) ≤ length new.out.now
    plain-room r = omega (arith, decoding-room r, ap length run, length-append (take n rest) (decode (drop n rest)))

    -- the `&` stands for a character at least
    filled : 1 ≤ length (decode (drop n rest))
    filled = decode-filled (drop n rest) (omega (arith, f.0, length-drop n rest))

    module _ (mid : Writer) (p : Puts new (take n rest) mid) where
      pub character-room : old.at + length (decode t) ≤ length old.out.now → mid.at < length mid.out.now
      character-room r =
          omega (arith, decoding-room r, filled, p.after, puts-length p, ap length run, length-append (take n rest) (decode (drop n rest)))

      pub decoding-next : (next : ℕ) (w : Writer) → CharacterPut rest n mid next w → Decoding t (drop next rest) old w
      decoding-next next w c =
          record {
            done = (h.done ++ take n rest) ++ (c.character ∷ []);
            whole-text = h.whole-text ∙ ap (λ (u : List ℕ). h.done ++ u) (run ∙ ap (λ (u : List ℕ). take n rest ++ u) c.decoded)
                ∙ rejoined h.done (take n rest) c.character (decode (drop next rest));
            written = puts-then (puts-then h.written p) c.written;
          }

-- the rest as the code takes it
pub decoding-from : (t rest : List ℕ) (next : ℕ) (old new : Writer) → Decoding t (drop next rest) old new → Decoding t (take (length rest - next) (drop next rest)) old new
decoding-from t rest next old new h =
    subst (λ (u : List ℕ). Decoding t u old new) (sym (take_all (length rest - next) (drop next rest) (omega (arith, length-drop next rest)))) h

-- ---- copied or decoded
pub copied-as : (w : List ℕ) (n : ℕ) → n ≡ length w → whole_characters n w ≡ w
unfolding characters_by
copied-as w n e = ap (λ (b : Bool). cond b w (decode w)) (eq-eqb n (length w) e)

pub decoded-as : (w : List ℕ) (n : ℕ) → (n ≡ length w → ⊥) → whole_characters n w ≡ decode w
unfolding characters_by
decoded-as w n d = ap (λ (b : Bool). cond b w (decode w)) (ne_eqb n (length w) d)
