-- `conditioned` meets its contract.
use Rattle.std.proofs.Common.{ap, ◌∙◌}
use Rattle.compiled_paths.specs.Steps.{condition_in}
use Rattle.inference_spec.specs.Types.{env, cut_to}
use Rattle.names.specs.Sets.{set_in}
use Rattle.needed_names.specs.conditions.Conditions.{keeps_in}
use Rattle.needed_names.specs.conditions.Laws.{kept-filter}
use Rattle.schema_spec.specs.Names.{Names}
use Rattle.schema_spec.specs.Types.{types_of}
use Rattle.needed_names.proofs.conditions.conditioned.Goals as goal

pub returns : goal.returns
returns c = λ s k.
    let e = c.args.e in
    let kept = c.kept-types in
    c.narrowed_to.ensures s k.relations
    ∙ ap (λ (t : Names). env t (cut_to (types_of s) t (set_in s e.context)))
    (kept-filter s k.relations.small (keeps_in s e.context (condition_in c.args.asked.now.paths.now.steps c.args.n c.args.i)) e.types kept.result (kept.ensures s k))
