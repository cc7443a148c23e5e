-- An entity by the bytes after its `&`: what begins at a place of a text.
use Rattle.std.specs.Prelude.{Bool, true, false, ◌&&◌, ◌≡◌, refl, ℕ, zero, suc, ◌+◌, ◌≤◌, ◌<◌, T, eqb, length, get_or, take, drop, Option, Some, None}
use mathlib.Core.List.{List, [], ◌∷◌, ◌++◌}
use Rattle.std.proofs.Common.{sym, ap₂, ◌∙◌, add-one, arith, eqb→eq, eq-eqb, ne_eqb, take_all, get_or-drop, length-append, length-drop, drop_of_length-le, drop-cons, drop-drop}
use Rattle.std.proofs.Math.Path.{ap}
use Rattle.journal_lexer.specs.declared.whole_entities.Character.{Character}
use Rattle.text_laws.specs.Tests.{never, passed, true_of, and_cases}
use Rattle.text_spec.specs.Lists.{bytes, begins_with}
use Rattle.token_spec.specs.Characters.{EntityFor, lt, gt, amp, apos, quot}

-- ---- definitions
-- a text goes on with bytes at a place
unfoldable pub begins_at : List ℕ → ℕ → List ℕ → Bool
begins_at t i u = begins_with u (drop i t)

-- none of the longer entities
pub record NoLonger (t : List ℕ) (i : ℕ) : Type 0 where
  pub amp : begins_at t i (bytes "amp;") ≡ false
  pub apos : begins_at t i (bytes "apos;") ≡ false
  pub quot : begins_at t i (bytes "quot;") ≡ false

-- an `&` before a place stands for a character, by the bytes of an entity up to another place or, where none begins, by itself
pub data EntityAfter (t : List ℕ) (i c next : ℕ) : Type 0 where
  whole : (u : List ℕ) → EntityFor (0x26 ∷ u) c → begins_at t i u ≡ true → next ≡ i + length u → EntityAfter t i c next
  itself : NoLonger t i → begins_at t i (bytes "lt;") ≡ false → begins_at t i (bytes "gt;") ≡ false → c ≡ 0x26 → next ≡ i → EntityAfter t i c next

-- the character of the entity whose bytes go on after an `&`, or none, where no entity begins there
pub data EntityAt (t : List ℕ) (i : ℕ) (r : Option Character) : Type 0 where
  begun : (u : List ℕ) (c : ℕ) → EntityFor (0x26 ∷ u) c → begins_at t i u ≡ true → r ≡ Some (record { byte = c; next = i + length u }) → EntityAt t i r
  none-begun : NoLonger t i → begins_at t i (bytes "lt;") ≡ false → begins_at t i (bytes "gt;") ≡ false → r ≡ None → EntityAt t i r

-- ---- bytes at a place
pub begins-past : (t : List ℕ) (i a : ℕ) → length t ≤ i → begins_at t i (a ∷ []) ≡ false
unfolding begins_at
begins-past t i a l = ap (begins_with (a ∷ [])) (drop_of_length-le t l)

and-true : (x : Bool) → (x && true) ≡ x
and-true true = refl
and-true false = refl

pub begins-byte : (t : List ℕ) (i a : ℕ) → i < length t → begins_at t i (a ∷ []) ≡ eqb a (get_or t i 0)
unfolding begins_at
begins-byte t i a l = ap (begins_with (a ∷ [])) (drop-cons t i 0 l) ∙ and-true (eqb a (get_or t i 0))

begins-next : (t : List ℕ) (i a : ℕ) (u : List ℕ) → begins_at t i (a ∷ u) ≡ (begins_at t i (a ∷ []) && begins_at t (suc i) u)
unfolding begins_at
begins-next [] zero a u = refl
begins-next [] (suc i) a u = refl
begins-next (b ∷ t) zero a u = ap (λ (x : Bool). x && begins_with u t) (sym (and-true (eqb a b)))
begins-next (b ∷ t) (suc i) a u = begins-next t i a u

pub begins-not : (t : List ℕ) (i a : ℕ) (u : List ℕ) → begins_at t i (a ∷ []) ≡ false → begins_at t i (a ∷ u) ≡ false
begins-not t i a u e = begins-next t i a u ∙ ap (λ (x : Bool). x && begins_at t (suc i) u) e

pub begins-then : (t : List ℕ) (i a : ℕ) (u : List ℕ) → begins_at t i (a ∷ []) ≡ true → begins_at t i (a ∷ u) ≡ begins_at t (i + 1) u
begins-then t i a u e =
    begins-next t i a u ∙ ap (λ (x : Bool). x && begins_at t (suc i) u) e ∙ ap (λ (k : ℕ). begins_at t k u) (sym (add-one i))

pub begins-two : (t : List ℕ) (i a b : ℕ) (u : List ℕ) → begins_at t i (a ∷ []) ≡ true → begins_at t (i + 1) (b ∷ []) ≡ true
    → begins_at t i (a ∷ b ∷ u) ≡ begins_at t (i + 2) u
begins-two t i a b u d e =
    let z : i + 1 + 1 ≡ i + 2 = omega arith in
    begins-then t i a (b ∷ u) d ∙ begins-then t (i + 1) b u e ∙ ap (λ (k : ℕ). begins_at t k u) z

pub begins-inside : (t : List ℕ) (i a : ℕ) → begins_at t i (a ∷ []) ≡ true → i < length t
unfolding begins_at
begins-inside [] zero a e = never (cc)
begins-inside [] (suc i) a e = never (cc)
begins-inside (b ∷ t) zero a e = omega arith
begins-inside (b ∷ t) (suc i) a e =
    let h = begins-inside t i a e in
    omega arith

-- bytes compared one after the other
and-false : (x : Bool) → (x && false) ≡ false
and-false true = refl
and-false false = refl

same-more : (u w : List ℕ) (k : ℕ) → k < length u → k < length w → get_or w k 0 ≡ get_or u k 0 → begins_with (take k u) w ≡ true
    → begins_with (take (suc k) u) w ≡ true
same-more [] w k l m e h = absurd (omega arith)
same-more (a ∷ u) [] k l m e h = absurd (omega arith)
same-more (a ∷ u) (b ∷ w) zero l m e h = and-true (eqb a b) ∙ eq-eqb a b (sym e)
same-more (a ∷ u) (b ∷ w) (suc k) l m e h =
    let p = and_cases (eqb a b) (begins_with (take k u) w) (passed h) in
    ap (λ (x : Bool). x && begins_with (take (suc k) u) w) (true_of (eqb a b) p.0)
    ∙ same-more u w k (omega arith) (omega arith) e (true_of (begins_with (take k u) w) p.1)

differs : (u w : List ℕ) (k : ℕ) → k < length u → (k < length w → get_or w k 0 ≡ get_or u k 0 → ⊥) → begins_with u w ≡ false
differs [] w k l d = absurd (omega arith)
differs (a ∷ u) [] k l d = refl
differs (a ∷ u) (b ∷ w) zero l d = ap (λ (x : Bool). x && begins_with u w) (ne_eqb a b (λ e. d (omega arith) (sym e)))
differs (a ∷ u) (b ∷ w) (suc k) l d =
    ap (λ (x : Bool). eqb a b && x) (differs u w k (omega arith) (λ m e. d (omega arith) e)) ∙ and-false (eqb a b)

module _ (t : List ℕ) (i : ℕ) (u : List ℕ) where
  pub begins-none : begins_at t i (take 0 u) ≡ true
  unfolding begins_at
  begins-none = refl

  pub begins-all : (k : ℕ) → length u ≤ k → begins_at t i (take k u) ≡ true → true ≡ begins_at t i u
  begins-all k l h = sym h ∙ ap (begins_at t i) (take_all k u l)

  module _ (k : ℕ) (l : k < length u) where
    pub begins-more : i + k < length t → get_or t (i + k) 0 ≡ get_or u k 0 → begins_at t i (take k u) ≡ true → begins_at t i (take (k + 1) u) ≡ true
    unfolding begins_at
    begins-more m e h =
        ap (λ (n : ℕ). begins_with (take n u) (drop i t)) (add-one k)
        ∙ same-more u (drop i t) k l (omega (arith, length-drop i t)) (get_or-drop i t k 0 ∙ e) h

    pub begins-short : length t ≤ i + k → false ≡ begins_at t i u
    unfolding begins_at
    begins-short m = sym (differs u (drop i t) k l (λ n e. omega (arith, length-drop i t)))

    pub begins-differs : (get_or t (i + k) 0 ≡ get_or u k 0 → ⊥) → false ≡ begins_at t i u
    unfolding begins_at
    begins-differs d = sym (differs u (drop i t) k l (λ n e. d (sym (get_or-drop i t k 0) ∙ e)))

-- a text that begins with another is that one, and then the rest
begins-split : (u w : List ℕ) → T (begins_with u w) → w ≡ u ++ drop (length u) w
begins-split [] w h = refl
begins-split (a ∷ u) [] h = absurd h
begins-split (a ∷ u) (b ∷ w) h =
    let k = and_cases (eqb a b) (begins_with u w) h in
    ap₂ (λ (x : ℕ) (v : List ℕ). x ∷ v) (sym (eqb→eq a b k.0)) (begins-split u w k.1)

-- ---- an entity that stands whole in a text
pub entity-filled : {u : List ℕ} {c : ℕ} → EntityFor (0x26 ∷ u) c → 1 ≤ length u
entity-filled lt = omega arith
entity-filled gt = omega arith
entity-filled amp = omega arith
entity-filled apos = omega arith
entity-filled quot = omega arith

module _ (t : List ℕ) (i : ℕ) (u : List ℕ) (q : begins_at t i u ≡ true) where
  pub whole_split : drop i t ≡ u ++ drop (i + length u) t
  unfolding begins_at
  whole_split = begins-split u (drop i t) (passed q) ∙ ap (λ (w : List ℕ). u ++ w) (drop-drop (length u) i t)

  pub whole-inside : {c : ℕ} → EntityFor (0x26 ∷ u) c → i + length u ≤ length t
  whole-inside h =
      let l : length (drop i t) ≡ length u + length (drop (i + length u) t) = ap length whole_split ∙ length-append u (drop (i + length u) t) in
      omega (arith, length-drop i t, l, entity-filled h)

-- ---- what an `&` stands for, and the place past it
pub at-entity : {t : List ℕ} {i : ℕ} {c : Character} → EntityAfter t i c.byte c.next → (c.next ≡ i → ⊥) → EntityAt t i (Some c)
at-entity {t} {i} {c} (whole u f begins q) d =
    let e : Some c ≡ Some (record { byte = c.byte; next = i + length u }) = ap (λ (k : ℕ). Some (record c { next = k })) q in
    begun u c.byte f begins e
at-entity (itself n a b e q) d = absurd (d q)

pub at-none : {t : List ℕ} {i b n : ℕ} → EntityAfter t i b n → n ≡ i → EntityAt t i None
at-none (whole u f begins q) e = absurd (omega (arith, entity-filled f))
at-none (itself n a b d q) e = none-begun n a b refl
