-- A well-formed table has no more rows than there can be nodes.
use Rattle.std.specs.Prelude.{List, [], ◌∷◌, ℕ, zero, suc, ◌≤◌, T, length}
use Rattle.std.proofs.Common.{arith}
use Rattle.schema_spec.specs.Types.{Types}
use Rattle.table_laws.specs.Places.{at_bound, at_some}
use Rattle.table_laws.specs.WellFormed.{table-means}
use Rattle.table_spec.specs.Conditions.{RowAt, WellFormed}
use Rattle.table_spec.specs.Rows.{Row}
use Rattle.table_spec.specs.Tables.{well_formed}
use Rattle.text_spec.specs.Limits.{max_nodes}

number-at-least : (s : Types) (rows : List Row) → WellFormed s rows → (i : ℕ) (r : Row) → RowAt rows i r → i ≤ r.number
number-at-least s rows w zero r a = omega arith
number-at-least s rows w (suc i) r a =
    let b = at_bound rows (suc i) r a in
    let q = at_some rows i (omega arith) in
    let l = (w.later_row i q.0 r q.1 a).rises in
    let h = number-at-least s rows w i q.0 q.1 in
    omega arith

few : (s : Types) (rows : List Row) → WellFormed s rows → length rows ≤ max_nodes
few s [] w = omega arith
few s (x ∷ []) w = omega arith
few s (x ∷ y ∷ rs) w =
    let q = at_some (x ∷ y ∷ rs) (length rs) (omega arith) in
    let r = at_some (x ∷ y ∷ rs) (suc (length rs)) (omega arith) in
    let l = (w.later_row (length rs) q.0 r.0 q.1 r.1).small in
    let h = number-at-least s (x ∷ y ∷ rs) w (suc (length rs)) r.0 r.1 in
    omega arith

pub rows_few : (s : Types) (rows : List Row) → T (well_formed s rows) → length rows ≤ max_nodes
rows_few s rows ok = few s rows (table-means s rows ok)
