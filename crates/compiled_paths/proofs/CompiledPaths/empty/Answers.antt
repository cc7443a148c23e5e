-- `CompiledPaths::empty` meets its contract.
use Rattle.std.proofs.Common.{◌≡◌, refl, ℕ, zero, suc, arith, get_or, replicate}
use Rattle.compiled_paths.proofs.CompiledPaths.empty.Goals as goal
use Rattle.compiled_paths.specs.Steps.{bundle-none}
use Rattle.compiled_paths.specs.Paths.{paths_in, AtMost}

all-zero : (n k : ℕ) → ◌≡◌ {A = ℕ} (get_or (replicate n 0) k 0) 0
all-zero zero zero = refl
all-zero zero (suc k) = refl
all-zero (suc n) zero = refl
all-zero (suc n) (suc k) = all-zero n k

zeros : (n m : ℕ) → AtMost m (replicate n 0)
zeros n m k = omega (arith, all-zero n k)

pub returns : goal.returns
unfolding paths_in
returns c = (
  bundle-none _ _ _ 0 0 refl,
  record {
    few = omega arith;
    paths-in = zeros 9 _;
    conditions-in = zeros 129 _;
  },
)
