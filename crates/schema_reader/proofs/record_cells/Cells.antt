-- A law of normal forms in cells.
use mathlib.Core.List.{List, ◌++◌}
use mathlib.Core.Path.{◌≡◌, sym, ap, ◌∙◌}
use Prim.Native.Nat.{ℕ, ◌-◌, ◌≤◌}
use native.Mathlib.Omega.{arith}
use lib.ListN.{length, replicate}
use Rattle.schema_reader.specs.normal_form.Normal.{Normalized}
use Rattle.schema_spec.specs.Records.{normal}
use Rattle.text_laws.specs.Cells.{drop-replicate, padded-content}
use Rattle.text_spec.specs.Cells.{padded}

-- the normal form in cells that were 0
pub normal-cells : {s cells : List ℕ} (size : ℕ) {r : ℕ} → length s ≤ size → Normalized s (replicate size 0) cells r → cells ≡ padded size (normal s)
normal-cells {s} size {r} h N =
    let a = N.size in
    let b = N.short in
    N.wrote ∙ ap (λ (l : List ℕ). normal s ++ l) (drop-replicate r size 0 ∙ ap (λ (k : ℕ). replicate (size - k) 0) N.size)
    ∙ sym (padded-content size (normal s) (omega arith))
