-- Decoding means what character data stands for, and shortens exactly the data that has an entity.
use Rattle.std.specs.Prelude.{Bool, true, false, not, ◌||◌, List, [], ◌∷◌, ◌++◌, ◌≡◌, refl, ℕ, zero, suc, ◌+◌, ◌-◌, ◌≤◌, ◌<◌, T, eqb, length}
use mathlib.Core.List.Memᴰ.{append_right}
use Rattle.std.proofs.Common.{sym, ap, subst, ◌∙◌, arith, eqb→eq, length-append}
use Rattle.text_laws.specs.Lists.{all_in, in_all}
use Rattle.text_laws.specs.Tests.{failed, false_of, and_cases, and_intro, or_left, or_right, not-intro, not-elim}
use Rattle.text_spec.specs.Lists.{all_of}
use Rattle.token_spec.specs.Characters.{EntityFor, lt as lt-for, gt as gt-for, amp as amp-for, apos as apos-for, quot as quot-for, Decodes, none as no-character, plain as plain-character, entity as entity-character, front_of, decode_from, decode, saved_in, no_entity}
use Rattle.token_spec.specs.Tokens.{Entity, lt, gt, amp, apos, quot, is_plain, Pieces, none as no-piece, plain, entity}

-- a byte that stands for itself is no `<` and no `&`
pub plain-parts : (b : ℕ) → T (is_plain b) → (eqb b 0x3C ≡ false) × (eqb b 0x26 ≡ false)
plain-parts b t =
    let n = not-elim (eqb b 0x3C || eqb b 0x26) t in
    (false_of (eqb b 0x3C) (λ h. n (or_left (eqb b 0x3C) (eqb b 0x26) h)), false_of (eqb b 0x26) (λ h. n (or_right (eqb b 0x3C) (eqb b 0x26) h)))

-- ---- entities

pub entity-for : {e : List ℕ} → Entity e → (c : ℕ) × EntityFor e c
entity-for lt = (0x3C, lt-for)
entity-for gt = (0x3E, gt-for)
entity-for amp = (0x26, amp-for)
entity-for apos = (0x27, apos-for)
entity-for quot = (0x22, quot-for)

pub for-entity : {e : List ℕ} {c : ℕ} → EntityFor e c → Entity e
for-entity lt-for = lt
for-entity gt-for = gt
for-entity amp-for = amp
for-entity apos-for = apos
for-entity quot-for = quot

pub decode-entity : {e : List ℕ} {c : ℕ} (w : List ℕ) → EntityFor e c → decode (e ++ w) ≡ c ∷ decode w
unfolding decode
decode-entity w lt-for = refl
decode-entity w gt-for = refl
decode-entity w amp-for = refl
decode-entity w apos-for = refl
decode-entity w quot-for = refl

pub decode-other : (b : ℕ) (w : List ℕ) → eqb b 0x26 ≡ false → decode (b ∷ w) ≡ b ∷ decode w
unfolding decode
decode-other b w e =
    let f : eqb 0x26 b ≡ false = false_of (eqb 0x26 b) (λ h. failed e (subst (λ (x : ℕ). T (eqb x 0x26)) (eqb→eq 0x26 b h) tt)) in
    rw f

decode-none : decode [] ≡ []
unfolding decode
decode-none = refl

-- ---- decoding and what character data stands for

-- Character data stands for what it is decoded to,
pub decode-decodes : {w : List ℕ} → Pieces w → Decodes w (decode w)
decode-decodes no-piece = subst (Decodes []) (sym decode-none) no-character
decode-decodes (plain {b = b} {w = w} h p) = subst (Decodes (b ∷ w)) (sym (decode-other b w (plain-parts b h).1)) (plain-character h (decode-decodes p))
decode-decodes (entity {e = e} {w = w} h p) =
    let c = entity-for h in
    subst (Decodes (e ++ w)) (sym (decode-entity w c.1)) (entity-character c.1 (decode-decodes p))

-- and for nothing else.
pub decodes-once : {w v : List ℕ} → Decodes w v → v ≡ decode w
decodes-once no-character = sym decode-none
decodes-once (plain-character {b = b} {w = w} h p) = ap (λ (l : List ℕ). b ∷ l) (decodes-once p) ∙ sym (decode-other b w (plain-parts b h).1)
decodes-once (entity-character {w = w} {c = c} h p) = ap (λ (l : List ℕ). c ∷ l) (decodes-once p) ∙ sym (decode-entity w h)

pub decodes-pieces : {w v : List ℕ} → Decodes w v → Pieces w
decodes-pieces no-character = no-piece
decodes-pieces (plain-character h p) = plain h (decodes-pieces p)
decodes-pieces (entity-character h p) = entity (for-entity h) (decodes-pieces p)

-- ---- lengths

entity-longer : {e : List ℕ} → Entity e → 1 < length e
entity-longer lt = omega arith
entity-longer gt = omega arith
entity-longer amp = omega arith
entity-longer apos = omega arith
entity-longer quot = omega arith

shorter-from : (n : ℕ) (w : List ℕ) → length (decode_from n w) ≤ length w
shorter-from zero [] = omega arith
shorter-from (suc n) [] = omega arith
shorter-from (suc n) (b ∷ w) =
    let h : length (decode_from n w) ≤ length w = shorter-from n w in
    omega arith
shorter-from zero (b ∷ w) =
    let h : length (decode_from (front_of b w).more w) ≤ length w = shorter-from (front_of b w).more w in
    omega arith

pub decode-shorter : (w : List ℕ) → length (decode w) ≤ length w
unfolding decode
decode-shorter w = shorter-from 0 w

pub decode-filled : (w : List ℕ) → 1 ≤ length w → 1 ≤ length (decode w)
unfolding decode
decode-filled [] h = h
decode-filled (b ∷ w) h = omega arith

-- what is saved, and the characters, are all bytes
pub saved-length : (w : List ℕ) → length (decode w) + saved_in w ≡ length w
saved-length w =
    let h : length (decode w) ≤ length w = decode-shorter w in
    omega arith

pub decoded-size : (w : List ℕ) → length w - saved_in w ≡ length (decode w)
decoded-size w =
    let h : length (decode w) + saved_in w ≡ length w = saved-length w in
    omega arith

pub none-saved : saved_in [] ≡ 0
none-saved = rw decode-none

pub plain-saved : (b : ℕ) (w : List ℕ) → eqb b 0x26 ≡ false → saved_in (b ∷ w) ≡ saved_in w
plain-saved b w e =
    let d : length (decode (b ∷ w)) ≡ suc (length (decode w)) = ap length (decode-other b w e) in
    omega arith

pub entity-saved : {e : List ℕ} (w : List ℕ) → Entity e → saved_in (e ++ w) ≡ (length e - 1) + saved_in w
entity-saved {e} w h =
    let d : length (decode (e ++ w)) ≡ suc (length (decode w)) = ap length (decode-entity w (entity-for h).1) in
    let n : length (e ++ w) ≡ length e + length w = length-append e w in
    let l : 1 < length e = entity-longer h in
    let s : length (decode w) ≤ length w = decode-shorter w in
    omega arith

-- data without an `&` stands for itself
pub no-entity-decode : (w : List ℕ) → T (no_entity w) → decode w ≡ w
no-entity-decode [] t = decode-none
no-entity-decode (b ∷ w) t =
    let h = and_cases (not (eqb b 0x26)) (no_entity w) t in
    decode-other b w (not-true (eqb b 0x26) h.0) ∙ ap (λ (l : List ℕ). b ∷ l) (no-entity-decode w h.1)
  where
    not-true : (x : Bool) → T (not x) → x ≡ false
    not-true true t = absurd t
    not-true false t = refl

-- data that is as long as what it stands for has no `&`
pub same-length-no-entity : {w : List ℕ} → Pieces w → length (decode w) ≡ length w → T (no_entity w)
same-length-no-entity no-piece e = tt
same-length-no-entity (plain {b = b} {w = w} h p) e =
    let d : length (decode (b ∷ w)) ≡ suc (length (decode w)) = ap length (decode-other b w (plain-parts b h).1) in
    let f : length (decode w) ≡ length w = omega arith in
    and_intro (not (eqb b 0x26)) (no_entity w) (not-intro (eqb b 0x26) (failed (plain-parts b h).1)) (same-length-no-entity p f)
same-length-no-entity (entity {e = e} {w = w} h p) q =
    let c = entity-for h in
    let d : length (decode (e ++ w)) ≡ suc (length (decode w)) = ap length (decode-entity w c.1) in
    let n : length (e ++ w) ≡ length e + length w = length-append e w in
    let l : 1 < length e = entity-longer h in
    let s : length (decode w) ≤ length w = decode-shorter w in
    absurd (omega arith)

-- so it stands for itself
pub same-length-decode : {w : List ℕ} → Pieces w → length (decode w) ≡ length w → decode w ≡ w
same-length-decode {w} p e = no-entity-decode w (same-length-no-entity p e)

-- A test that the bytes of a text and the five characters pass, the characters of the text pass.
module _ (f : ℕ → Bool) (five : (e : List ℕ) (c : ℕ) → EntityFor e c → T (f c)) where
  pub decoded-pass : {w v : List ℕ} → Decodes w v → T (all_of f w) → T (all_of f v)
  decoded-pass no-character t = tt
  decoded-pass (plain-character {b = b} {w = w} {v = v} h d) t =
      let c = and_cases (f b) (all_of f w) t in
      and_intro (f b) (all_of f v) c.0 (decoded-pass d c.1)
  decoded-pass (entity-character {e = e} {w = w} {v = v} {c = c} h d) t =
      and_intro (f c) (all_of f v) (five e c h) (decoded-pass d (in_all f w (λ b i. all_in f t (append_right e i))))
