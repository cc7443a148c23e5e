-- Laws of places in a text: those of used names, and places in rising order.
use mathlib.Core.List.Memᴰ.{head as here}
use mathlib.Core.List.Memᴰ.{tail as there}
use mathlib.Core.List.{List, [], ◌∷◌, map, Memᴰ as In}
use Rattle.std.specs.Prelude.{◌≡◌, refl, ℕ, suc, ◌≤◌, ◌<◌}
use Rattle.std.proofs.Common.{ap, arith}
use Rattle.schema_spec.specs.Declarations.{Use}
use Rattle.schema.specs.particles.ReadingLaws.{between-low}
use Rattle.schema.specs.particles.Readings.{use_at, Between}

pub places-back : (s ps : List ℕ) → map (λ (u : Use). u.place) (map (use_at s) ps) ≡ ps
places-back s [] = refl
places-back s (p ∷ ps) = ap (λ (l : List ℕ). p ∷ l) (places-back s ps)

-- places in rising order lie within their bounds
pub between-least : (low high : ℕ) (ps : List ℕ) {x : ℕ} → Between low high ps → In x ps → (low ≤ x) × (x < high)
between-least low high [] b i = elim i [ ]
between-least low high (p ∷ ps) b (here q) = let y = b.0 in let z = between-low (suc p) high ps b.1 in (omega arith, omega arith)
between-least low high (p ∷ ps) b (there i) = let z = between-least (suc p) high ps b.1 i in let y = b.0 in (omega (arith, z.0), z.1)

-- the head of a list in rising order is its least
pub head-least : (low high p : ℕ) (ps : List ℕ) {x : ℕ} → Between low high (p ∷ ps) → In x (p ∷ ps) → p ≤ x
head-least low high p ps b (here q) = omega arith
head-least low high p ps b (there i) = let z = between-least (suc p) high ps b.1 i in omega (arith, z.0)
