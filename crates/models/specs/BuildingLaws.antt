-- Laws of a position automaton made part by part: ends from the ends of the parts, links from the links within the parts.
use Rattle.std.specs.Prelude.{Bool, true, false, ◌&&◌, ◌||◌, List, ◌≡◌, refl, ℕ, ◌+◌, ◌≤◌, ◌<◌, eqb, ltb, length, get_or, set}
use Rattle.std.proofs.Math.Bool.{or-false, and-true, and-false}
use Rattle.std.proofs.Common.{⊎_elim, eq-or-lt_of_le, sym, subst, ap, ap₂, ◌∙◌, arith, lt-ltb}
use Rattle.std.specs.Int.Bits.{bit_or}
use Rattle.models.specs.Automaton.{AutomatonOf}
use Rattle.models.specs.Building.{EndsOf, Linked, linked_bit, LinksAdded}
use Rattle.models.specs.PositionLaws.{not_first, not-next}
use Rattle.models.specs.Positions.{size, may_be_absent, is_first, is_last, is_next}
use Rattle.models.specs.declared.Ends.{Ends}
use Rattle.names.specs.bits.Bits.{bit-none, bit-or}
use Rattle.schema_spec.specs.Models.{Particle, named, sequence, choice, repeated, uses}
use Rattle.schema_spec.specs.Names.{has_bit}
use Rattle.text_laws.specs.Loops.{Passed, passed-next}
use Rattle.text_laws.specs.Searches.{below-or-past}
use Rattle.text_spec.specs.Limits.{max_model_names}

pub named-ends : (p w : ℕ) → ((j : ℕ) → has_bit w j ≡ (has_bit 0 j || (eqb j p && ltb p max_model_names))) → p < max_model_names → (a : ℕ)
    → EndsOf p (named a) (record { first = w; last = w; nullable = false })
named-ends p w h l a = record { first = λ i b. only i; last = λ i b. only i; absent = refl }
  where
    only : (i : ℕ) → has_bit w i ≡ eqb i p
    only i = h i ∙ ap₂ (λ (x y : Bool). x || (eqb i p && y)) (bit-none i) (lt-ltb p max_model_names l) ∙ and-true (eqb i p)

and-turned : (b c : Bool) → (b && c) ≡ (c && b)
and-turned true c = sym (and-true c)
and-turned false c = sym (and-false c)

module _ (a b : Ends) (k : ℕ) (p q : Particle ℕ) (x : EndsOf k p a) (y : EndsOf (k + size p) q b) where
  turned : (l m n : Bool) → (m || (n && l)) ≡ ((l && n) || m)
  turned true true true = refl
  turned true true false = refl
  turned true false true = refl
  turned true false false = refl
  turned false true n = refl
  turned false false true = refl
  turned false false false = refl

  pub sequence-ends : (f l : ℕ) (n : Bool) → ((i : ℕ) → has_bit f i ≡ (has_bit a.first i || (a.nullable && has_bit b.first i)))
      → ((i : ℕ) → has_bit l i ≡ (has_bit b.last i || (b.nullable && has_bit a.last i))) → n ≡ (a.nullable && b.nullable)
      → EndsOf k (sequence p q) (record { first = f; last = l; nullable = n })
  sequence-ends f l n hf hl hn =
      record {
        first = λ i c. hf i ∙ ap₂ ◌||◌ (x.first i c) (ap₂ ◌&&◌ x.absent (y.first i c));
        last = λ i c. hl i ∙ ap₂ ◌||◌ (y.last i c) (ap₂ ◌&&◌ y.absent (x.last i c)) ∙ turned (is_last k p i) (is_last (k + size p) q i) (may_be_absent q);
        absent = hn ∙ ap₂ ◌&&◌ x.absent y.absent;
      }

  pub choice-ends : (n : Bool) → n ≡ (a.nullable || b.nullable)
      → EndsOf k (choice p q) (record { first = bit_or a.first b.first; last = bit_or a.last b.last; nullable = n })
  choice-ends n hn =
      record {
        first = λ i c. bit-or a.first b.first i ∙ ap₂ ◌||◌ (x.first i c) (y.first i c);
        last = λ i c. bit-or a.last b.last i ∙ ap₂ ◌||◌ (x.last i c) (y.last i c);
        absent = hn ∙ ap₂ ◌||◌ x.absent y.absent;
      }

pub repeated-ends : (a : Ends) (k : ℕ) (m o : Bool) (p : Particle ℕ) (n : Bool) → n ≡ (o || a.nullable) → EndsOf k p a
    → EndsOf k (repeated m o p) (record { first = a.first; last = a.last; nullable = n })
repeated-ends a k m o p n hn x = record { first = x.first; last = x.last; absent = hn ∙ ap (λ (b : Bool). o || b) x.absent }

-- a position's links after a linking
abbrev pub LinkedAt : List ℕ → ℕ → ℕ → ℕ → ℕ → Type 0
LinkedAt before lasts firsts j w = (i : ℕ) → has_bit w i ≡ linked_bit before lasts firsts i j

module _ (before : List ℕ) (lasts firsts : ℕ) where
  pub linked-next : (j : ℕ) (now : List ℕ) (w : ℕ) (test : Bool) → Passed (LinkedAt before lasts firsts) 0 before j now → test ≡ has_bit firsts j
      → ((i : ℕ) → has_bit w i ≡ (has_bit (get_or now j 0) i || (test && has_bit lasts i))) → LinkedAt before lasts firsts j w
  linked-next j now w test p t new i =
      new i ∙ ap₂ (λ (x : ℕ) (b : Bool). has_bit x i || (b && has_bit lasts i)) (p.kept j (omega arith)) t

  pub linked-set : (j : ℕ) (now : List ℕ) → j < length now → Passed (LinkedAt before lasts firsts) 0 before j now → has_bit firsts j ≡ true
      → Passed (LinkedAt before lasts firsts) 0 before (j + 1) (set now j (bit_or (get_or now j 0) lasts))
  linked-set j now inside p t =
      passed-next (LinkedAt before lasts firsts) 0 before j now (bit_or (get_or now j 0) lasts) inside p
      (λ i. bit-or (get_or now j 0) lasts i ∙ ap₂ (λ (x : ℕ) (b : Bool). has_bit x i || (b && has_bit lasts i)) (p.kept j (omega arith)) (sym t))

  pub linked-kept : (j : ℕ) (now : List ℕ) → Passed (LinkedAt before lasts firsts) 0 before j now → has_bit firsts j ≡ false → Passed (LinkedAt before lasts firsts) 0 before (j + 1) now
  linked-kept j now p f =
      record {
        done = λ m l. ⊎_elim (λ e. subst (λ (n : ℕ). LinkedAt before lasts firsts n (get_or now n 0)) (sym e) here) (p.done m) (eq-or-lt_of_le (at_most m l));
        kept = λ m l. p.kept m (omega arith);
      }
    where
      at_most : (m : ℕ) → m < j + 1 → m ≤ j
      at_most m l = omega arith

      here : LinkedAt before lasts firsts j (get_or now j 0)
      here i =
          ap (λ (x : ℕ). has_bit x i) (p.kept j (omega arith)) ∙ sym (ap (λ (b : Bool). has_bit (get_or before j 0) i || (b && has_bit lasts i)) f ∙ or-false (has_bit (get_or before j 0) i))

  -- a cell past the highest first position stays as it was
  pub linked-all : (j : ℕ) (now : List ℕ) → ((m : ℕ) → j ≤ m → m < length before → has_bit firsts m ≡ false) → length now ≡ length before
      → Passed (LinkedAt before lasts firsts) 0 before j now → LinksAdded before lasts firsts now
  linked-all j now past long p = record { long = long; bits = λ i m l. ⊎_elim (λ h. p.done m h i) (λ h. unlinked m h l i) (below-or-past m j) }
    where
      unlinked : (m : ℕ) → j ≤ m → m < length before → LinkedAt before lasts firsts m (get_or now m 0)
      unlinked m h l i =
          ap (λ (x : ℕ). has_bit x i) (p.kept m h)
          ∙ sym (ap (λ (b : Bool). has_bit (get_or before m 0) i || (b && has_bit lasts i)) (past m h l) ∙ or-false (has_bit (get_or before m 0) i))

-- Links. Two particles in a row are linked from the last of the one to the first of the other; of two alternatives neither follows the
-- other; what repeats is linked from its last to its first.
module _ (k : ℕ) (p q : Particle ℕ) (before : List ℕ) (x : Linked k p before) (y : Linked (k + size p) q before) where
  pub choice-linked : Linked k (choice p q) before
  choice-linked i j l u v = ⊎_elim first second (below-or-past j (k + size p))
    where
      first : j < k + size p → has_bit (get_or before j 0) i ≡ (is_next k p i j || is_next (k + size p) q i j)
      first h =
          x i j l u h
          ∙ sym (ap (λ (b : Bool). is_next k p i j || b) (not-next (k + size p) q j (λ r. omega arith) i) ∙ or-false (is_next k p i j))

      second : k + size p ≤ j → has_bit (get_or before j 0) i ≡ (is_next k p i j || is_next (k + size p) q i j)
      second h = y i j l h (omega arith) ∙ sym (ap (λ (b : Bool). b || is_next (k + size p) q i j) (not-next k p j (λ r. omega arith) i))

  pub sequence-linked : (a b : Ends) (after : List ℕ) → k + (size p + size q) ≤ max_model_names → k + (size p + size q) ≤ length before → EndsOf k p a → EndsOf (k + size p) q b
      → LinksAdded before a.last b.first after → Linked k (sequence p q) after
  sequence-linked a b after few room ea eb h i j l u v = h.bits i j (omega arith) ∙ ⊎_elim first second (below-or-past j (k + size p))
    where
      first : j < k + size p → linked_bit before a.last b.first i j ≡ (is_next k p i j || (is_next (k + size p) q i j || (is_last k p i && is_first (k + size p) q j)))
      first s =
          let f = not_first (k + size p) q j (λ r. omega arith) in
          ap₂ (λ (c d : Bool). c || (d && has_bit a.last i)) (x i j l u s) (eb.first j (omega arith) ∙ f)
          ∙ ap (λ (c : Bool). is_next k p i j || c)
          (sym (ap₂ (λ (c d : Bool). c || (is_last k p i && d)) (not-next (k + size p) q j (λ r. omega arith) i) f ∙ and-false (is_last k p i)))

      second : k + size p ≤ j → linked_bit before a.last b.first i j ≡ (is_next k p i j || (is_next (k + size p) q i j || (is_last k p i && is_first (k + size p) q j)))
      second s =
          ap₂ ◌||◌ (y i j l s (omega arith)) (ap₂ ◌&&◌ (eb.first j (omega arith)) (ea.last i l) ∙ and-turned (is_first (k + size p) q j) (is_last k p i))
          ∙ sym (ap (λ (c : Bool). c || (is_next (k + size p) q i j || (is_last k p i && is_first (k + size p) q j))) (not-next k p j (λ r. omega arith) i))

pub repeated-linked : (k : ℕ) (o : Bool) (p : Particle ℕ) (a : Ends) (before after : List ℕ) → k + size p ≤ max_model_names → k + size p ≤ length before → Linked k p before → EndsOf k p a
    → LinksAdded before a.last a.first after → Linked k (repeated true o p) after
repeated-linked k o p a before after few room x ea h i j l u v =
    h.bits i j (omega arith) ∙ ap₂ ◌||◌ (x i j l u v) (ap₂ ◌&&◌ (ea.first j (omega arith)) (ea.last i l) ∙ and-turned (is_first k p j) (is_last k p i))

-- what does not repeat keeps its links
pub once-linked : (k : ℕ) (o : Bool) (p : Particle ℕ) (before : List ℕ) → Linked k p before → Linked k (repeated false o p) before
once-linked k o p before x i j l u v = x i j l u v ∙ sym (or-false (is_next k p i j))

-- a particle's ends, links and names are its automaton
pub automaton-of-parts : (p : Particle ℕ) (e : Ends) (elements predecessors : List ℕ) → size p ≤ max_model_names → size p ≤ length elements → size p ≤ length predecessors
    → ((j : ℕ) → j < size p → get_or elements j 0 ≡ get_or (uses p) j 0) → EndsOf 0 p e → Linked 0 p predecessors → AutomatonOf p e elements predecessors
automaton-of-parts p e elements predecessors few long deep names ends links =
    record {
      few = few;
      room = (long, deep);
      named = names;
      first = λ j l. ends.first j (omega arith);
      last = ends.last;
      next = λ i j l h. links i j l (omega arith) (omega arith);
      absent = ends.absent;
    }
