-- `Relations::of` meets its contract: no way goes through an element past those that a schema may have.
use Rattle.std.proofs.Common.{rules, arith, ⊎_elim, inl, inr, ◌⊎◌, ◌≡◌, ◌≤◌, length}
use Rattle.names.specs.closures.Rounds.{rounds-enough, none-past-rounds}
use Rattle.text_laws.specs.Searches.{below-or-past}
use Rattle.text_spec.specs.Limits.{max_declarations}
use Rattle.names.proofs.relations.Relations.of.Goals as goal

pub returns-clause-beneath : goal.returns-clause-beneath
returns-clause-beneath c past a b =
    let start = c.args.«holds» in
    let long : length start ≡ max_declarations = search rules in
    let few : (c.min.result ≡ c.args.count) ⊎ ((c.min.result ≡ length start) × (length start ≤ c.args.count)) =
    ⊎_elim (λ l. inl (omega arith)) (λ l. inr (omega (arith, long), omega (arith, long))) (below-or-past c.args.count max_declarations) in
    let reached = c.reached-below.ensures (none-past-rounds start _ c.args.count few past) a b in
    let enough = rounds-enough start _ c.args.count few a b in
    (λ t. enough.0 (reached.0 t), λ r. reached.1 (enough.1 r))
