-- The range of the paths asked for.
use Rattle.std.specs.Prelude.{◌≡◌, refl, ℕ, zero, suc, ◌-◌, ◌≤◌}
use Rattle.std.proofs.Common.{arith}

-- the path past those asked for
abbrev pub past_asked : ℕ → ℕ → ℕ
past_asked zero count = count
past_asked (suc i) count = suc i

pub past_all : (place count : ℕ) → place ≡ 0 → count ≡ past_asked place count
past_all place count e = rw e

pub past_one : (place count : ℕ) → (place ≡ 0 → ⊥) → place ≡ past_asked place count
past_one zero count d = absurd (d refl)
past_one (suc i) count d = refl

-- it lies within the paths
pub asked-order : (place count first end : ℕ) → place ≤ count → first ≡ place - 1 → end ≡ past_asked place count → (first ≤ end) × (end ≤ count)
asked-order zero count first end l d e = (omega arith, omega arith)
asked-order (suc i) count first end l d e = (omega arith, omega arith)
