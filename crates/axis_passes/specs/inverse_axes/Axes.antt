-- Axes by their numbers.
use Rattle.std.specs.Prelude.{◌≡◌, ℕ}
use Rattle.std.proofs.Common.{ne_eqb}
use Rattle.compiled_paths.specs.Columns.{axis_of, written_of}
use Rattle.path_spec.specs.Paths.{self, along}

-- every other number is that of the node itself
pub axis-other : (c : ℕ) → (c ≡ 1 → ⊥) → (c ≡ 2 → ⊥) → (c ≡ 3 → ⊥) → (c ≡ 4 → ⊥) → (c ≡ 5 → ⊥) → (c ≡ 6 → ⊥) → (c ≡ 7 → ⊥) → (c ≡ 8 → ⊥) → (c ≡ 9 → ⊥) → (c ≡ 10 → ⊥)
    → written_of c ≡ along self
unfolding written_of axis_of
axis-other c h1 h2 h3 h4 h5 h6 h7 h8 h9 h10 =
    rw (ne_eqb c 7 h7, ne_eqb c 8 h8, ne_eqb c 9 h9, ne_eqb c 10 h10, ne_eqb c 1 h1, ne_eqb c 2 h2, ne_eqb c 3 h3, ne_eqb c 4 h4, ne_eqb c 5 h5, ne_eqb c 6 h6)
