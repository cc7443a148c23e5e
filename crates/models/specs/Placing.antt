-- A position automaton made part by part in lent cells: a particle's ends and links, where its positions start at k. What was linked before
-- k is as it was, and nothing is linked past the particle.
use Rattle.std.specs.Prelude.{Bool, true, false, ◌&&◌, ◌||◌, List, ◌≡◌, refl, ℕ, ◌+◌, ◌≤◌, ◌<◌, length, get_or}
use Rattle.std.proofs.Math.Bool.{or-false}
use Rattle.std.proofs.Common.{⊎_elim, sym, ap, ◌∙◌, arith}
use Rattle.std.proofs.Math.ListN.{get_or-eq_default}
use Rattle.models.specs.Building.{EndsOf, Linked, LinksAdded}
use Rattle.models.specs.BuildingLaws.{choice-linked, sequence-linked, repeated-linked, once-linked}
use Rattle.models.specs.PositionLaws.{not_first}
use Rattle.models.specs.Positions.{size}
use Rattle.models.specs.declared.Ends.{Ends}
use Rattle.schema_spec.specs.Models.{Particle, named, sequence, choice, repeated}
use Rattle.schema_spec.specs.Names.{has_bit}
use Rattle.text_laws.specs.Searches.{below-or-past}
use Rattle.text_spec.specs.Limits.{max_model_names}

-- nothing is linked from position k on
abbrev pub Clear : ℕ → List ℕ → Type 0
Clear k cells = (i j : ℕ) → k ≤ j → has_bit (get_or cells j 0) i ≡ false

pub record Placed (k : ℕ) (p : Particle ℕ) (before after : List ℕ) (e : Ends) : Type 0 where
  pub ends : EndsOf k p e
  pub linked : Linked k p after
  pub kept : (i j : ℕ) → j < k → has_bit (get_or after j 0) i ≡ has_bit (get_or before j 0) i
  pub clear : Clear (k + size p) after

-- a linking changes the positions among the firsts alone
link-other : (before after : List ℕ) (lasts firsts : ℕ) → LinksAdded before lasts firsts after → (i j : ℕ) → (j < length before → has_bit firsts j ≡ false)
    → has_bit (get_or after j 0) i ≡ has_bit (get_or before j 0) i
link-other before after lasts firsts h i j f = ⊎_elim inside outside (below-or-past j (length before))
  where
    inside : j < length before → has_bit (get_or after j 0) i ≡ has_bit (get_or before j 0) i
    inside l =
        h.bits i j l ∙ ap (λ (b : Bool). has_bit (get_or before j 0) i || (b && has_bit lasts i)) (f l) ∙ or-false (has_bit (get_or before j 0) i)

    outside : length before ≤ j → has_bit (get_or after j 0) i ≡ has_bit (get_or before j 0) i
    outside l =
        let m = h.long in
        ap (λ (w : ℕ). has_bit w i) (get_or-eq_default after 0 (omega arith) ∙ sym (get_or-eq_default before 0 l))

pub placed-name : (k a : ℕ) (cells : List ℕ) (e : Ends) → EndsOf k (named a) e → Clear k cells → Placed k (named a) cells cells e
placed-name k a cells e x c = record { ends = x; linked = λ i j l u v. c i j u; kept = λ i j l. refl; clear = λ i j l. c i j (omega arith) }

-- two particles, the second placed after the first
module _ (k : ℕ) (p q : Particle ℕ) (before middle : List ℕ) (a b : Ends) (x : Placed k p before middle a) where
  module _ (last : List ℕ) (y : Placed (k + size p) q middle last b) where
    still : Linked k p last
    still i j l u v = y.kept i j v ∙ x.linked i j l u v

    kept-both : (i j : ℕ) → j < k → has_bit (get_or last j 0) i ≡ has_bit (get_or before j 0) i
    kept-both i j l = y.kept i j (omega arith) ∙ x.kept i j l

    pub placed-choice : (e : Ends) → EndsOf k (choice p q) e → Placed k (choice p q) before last e
    placed-choice e ends = record { ends = ends; linked = choice-linked k p q last still y.linked; kept = kept-both; clear = λ i j l. y.clear i j (omega arith) }

    pub placed-sequence : (e : Ends) (after : List ℕ) → length last ≤ max_model_names → k + (size p + size q) ≤ length last → EndsOf k (sequence p q) e
        → LinksAdded last a.last b.first after → Placed k (sequence p q) before after e
    placed-sequence e after few room ends h =
        record {
          ends = ends;
          linked = sequence-linked k p q last still y.linked a b after (omega arith) room x.ends y.ends h;
          kept = λ i j l. link-other last after a.last b.first h i j (λ m. apart j (omega arith) (λ r. omega arith)) ∙ kept-both i j l;
          clear = λ i j l. link-other last after a.last b.first h i j (λ m. apart j (omega arith) (λ r. omega arith)) ∙ y.clear i j (omega arith);
        }
      where
        apart : (j : ℕ) → j < max_model_names → ((k + size p ≤ j) × (j < k + size p + size q) → ⊥) → has_bit b.first j ≡ false
        apart j l far = y.ends.first j l ∙ not_first (k + size p) q j far

module _ (k : ℕ) (o : Bool) (p : Particle ℕ) (before last : List ℕ) (a : Ends) (x : Placed k p before last a) (e : Ends) where
  -- it does not repeat
  pub placed-once : EndsOf k (repeated false o p) e → Placed k (repeated false o p) before last e
  placed-once ends = record { ends = ends; linked = once-linked k o p last x.linked; kept = x.kept; clear = x.clear }

  pub placed-repeated : (after : List ℕ) → length last ≤ max_model_names → k + size p ≤ length last → EndsOf k (repeated true o p) e → LinksAdded last a.last a.first after
      → Placed k (repeated true o p) before after e
  placed-repeated after few room ends h =
      record {
        ends = ends;
        linked = repeated-linked k o p a last after (omega arith) room x.linked x.ends h;
        kept = λ i j l. link-other last after a.last a.first h i j (λ m. apart j (omega arith) (λ r. omega arith)) ∙ x.kept i j l;
        clear = λ i j l. link-other last after a.last a.first h i j (λ m. apart j (omega arith) (λ r. omega arith)) ∙ x.clear i j l;
      }
    where
      apart : (j : ℕ) → j < max_model_names → ((k ≤ j) × (j < k + size p) → ⊥) → has_bit a.first j ≡ false
      apart j l far = x.ends.first j l ∙ not_first k p j far
