-- `Inferred::step` meets its contract.
use Rattle.std.proofs.Common.{ap, ◌∙◌}
use Rattle.compiled_paths.specs.Steps.{node_test}
use Rattle.inference_spec.specs.Types.{Env, env, cut_to, narrow}
use Rattle.inference.specs.type_steps.Laws.{tested-filter}
use Rattle.names.specs.Sets.{set_in}
use Rattle.path_spec.specs.Selection.{passes}
use Rattle.schema_spec.specs.Names.{Names}
use Rattle.schema_spec.specs.Types.{types_of}
use Rattle.inference.proofs.type_steps.Inferred.step.Goals as goal

pub returns : goal.returns
returns c = λ s k.
    let gone = c.moved-gone in
    let w = node_test c.args.test in
    c.narrowed_to.ensures s k
    ∙ ap (λ (t : Names). env t (cut_to (types_of s) t (set_in s gone.result.context))) (tested-filter s k.small w gone.result.types c.tested.result c.tested.ensures)
    ∙ ap (λ (e : Env). narrow (types_of s) (passes w) e) (gone.ensures s k)
