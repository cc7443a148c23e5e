-- `Relations::holding` meets its contract.
use Rattle.std.proofs.Common.{arith}
use Rattle.names.specs.closures.Schemas.{holds-relating, related_to-filter}
use Rattle.schema_spec.specs.Types.{types_of, holds}
use Rattle.names.proofs.relations.Relations.holding.Goals as goal

pub returns-clause-of_schema : goal.returns-clause-of_schema
unfolding types_of
returns-clause-of_schema c = λ s relations.
    let r = c.args.self.now in
    related_to-filter s relations.small r.count (omega (arith, relations.counted)) (holds s) (holds-relating s relations.closed) r.«holds» relations.holding c.args.t _ (c.related_to.ensures (omega (arith, relations.counted, relations.small)))
