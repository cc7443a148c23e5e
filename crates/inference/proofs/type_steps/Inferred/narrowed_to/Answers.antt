-- `Inferred::narrowed_to` meets its contract.
use Rattle.std.proofs.Common.{ap}
use Rattle.inference.specs.type_steps.Laws.{near-cut_to, union-union_of, common-within}
use Rattle.inference_spec.specs.Types.{env}
use Rattle.names.specs.Sets.{set_in}
use Rattle.inference.proofs.type_steps.Inferred.narrowed_to.Goals as goal

pub returns : goal.returns
returns c = λ s k.
    let t = c.args.types in
    let near = c.bitor-near in
    ap (env (set_in s t))
    (near-cut_to s t c.args.self.context c.bitand.result _ _ (c.all_above.ensures.of_schema s k) (union-union_of s t c.all_above.result near.result near.ensures)
    (common-within s c.args.self.context near.result c.bitand.result c.bitand.ensures))
