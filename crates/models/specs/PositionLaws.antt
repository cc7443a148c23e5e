-- Laws of a content model's positions: how many there are, and that first and following positions are the particle's own.
use Rattle.std.specs.Prelude.{false, ◌&&◌, ◌||◌, ◌≡◌, refl, ℕ, ◌+◌, ◌≤◌, ◌<◌, T, length}
use Rattle.std.proofs.Common.{⊎_elim, ap₂, ◌∙◌, arith, eqb→eq, length-append}
use Rattle.models.specs.Positions.{size, may_be_absent, is_first, is_last, is_next}
use Rattle.schema_spec.specs.Models.{Particle, named, sequence, choice, repeated, uses}
use Rattle.text_laws.specs.Tests.{or_cases, and_cases, false_of}

-- a position for each name
pub size-uses : (p : Particle ℕ) → length (uses p) ≡ size p
size-uses (named x) = refl
size-uses (sequence p q) = length-append (uses p) (uses q) ∙ ap₂ ◌+◌ (size-uses p) (size-uses q)
size-uses (choice p q) = length-append (uses p) (uses q) ∙ ap₂ ◌+◌ (size-uses p) (size-uses q)
size-uses (repeated m n p) = size-uses p

-- first positions, and those that follow any, are the particle's own
first_range : (k : ℕ) (p : Particle ℕ) (j : ℕ) → T (is_first k p j) → (k ≤ j) × (j < k + size p)
first_range k (named a) j t =
    let e = eqb→eq j k t in
    (omega arith, omega arith)
first_range k (sequence p q) j t =
    ⊎_elim (λ h.
    let r = first_range k p j h in
    (r.0, omega arith))
    (λ h.
    let r = first_range (k + size p) q j (and_cases (may_be_absent p) (is_first (k + size p) q j) h).1 in
    (omega arith, omega arith)) (or_cases (is_first k p j) (may_be_absent p && is_first (k + size p) q j) t)
first_range k (choice p q) j t =
    ⊎_elim (λ h.
    let r = first_range k p j h in
    (r.0, omega arith))
    (λ h.
    let r = first_range (k + size p) q j h in
    (omega arith, omega arith)) (or_cases (is_first k p j) (is_first (k + size p) q j) t)
first_range k (repeated m n p) j t = first_range k p j t

next-range : (k : ℕ) (p : Particle ℕ) (i j : ℕ) → T (is_next k p i j) → (k ≤ j) × (j < k + size p)
next-range k (named a) i j t = absurd t
next-range k (sequence p q) i j t =
    ⊎_elim (λ h.
    let r = next-range k p i j h in
    (r.0, omega arith))
    (λ h.
    let r = ⊎_elim (next-range (k + size p) q i j) (λ f. first_range (k + size p) q j (and_cases (is_last k p i) (is_first (k + size p) q j) f).1)
    (or_cases (is_next (k + size p) q i j) (is_last k p i && is_first (k + size p) q j) h) in
    (omega arith, omega arith)) (or_cases (is_next k p i j) (is_next (k + size p) q i j || (is_last k p i && is_first (k + size p) q j)) t)
next-range k (choice p q) i j t =
    ⊎_elim (λ h.
    let r = next-range k p i j h in
    (r.0, omega arith))
    (λ h.
    let r = next-range (k + size p) q i j h in
    (omega arith, omega arith)) (or_cases (is_next k p i j) (is_next (k + size p) q i j) t)
next-range k (repeated m n p) i j t =
    ⊎_elim (next-range k p i j) (λ h. first_range k p j (and_cases (is_last k p i) (is_first k p j) (and_cases m (is_last k p i && is_first k p j) h).1).1)
    (or_cases (is_next k p i j) (m && (is_last k p i && is_first k p j)) t)

module _ (k : ℕ) (p : Particle ℕ) (j : ℕ) (outside : (k ≤ j) × (j < k + size p) → ⊥) where
  pub not_first : is_first k p j ≡ false
  not_first = false_of (is_first k p j) (λ t. outside (first_range k p j t))

  pub not-next : (i : ℕ) → is_next k p i j ≡ false
  not-next i = false_of (is_next k p i j) (λ t. outside (next-range k p i j t))
