-- `Relations::all_below` meets its contract.
use Rattle.std.proofs.Common.{arith}
use Rattle.names.specs.closures.Schemas.{below-relating, related_from-filter}
use Rattle.schema_spec.specs.Types.{types_of, is_below}
use Rattle.names.proofs.relations.Relations.all_below.Goals as goal

pub returns-clause-of_schema : goal.returns-clause-of_schema
unfolding types_of
returns-clause-of_schema c = λ s relations.
    let r = c.args.self.now in
    related_from-filter s relations.small r.count (omega (arith, relations.counted)) (is_below (types_of s)) (below-relating s relations.closed) r.below relations.below c.args.t _ (c.related_from.ensures (omega (arith, relations.counted, relations.small)))
