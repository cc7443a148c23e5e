-- `ends_some` meets its contract.
use Rattle.std.proofs.Common.{not, ap, ◌∙◌}
use Rattle.inference_spec.specs.Types.{Env}
use Rattle.inference.specs.type_steps.Envs.{env_in}
use Rattle.needed_names.specs.alternatives.Alternatives.{ends_some}
use Rattle.needed_names.specs.alternatives.Laws.{overlap-some-set_in}
use Rattle.text_spec.specs.Lists.{is_empty}
use Rattle.needed_names.proofs.alternatives.ends_some.Goals as goal

pub returns : goal.returns
returns c = λ s k.
    c.meets.ensures ∙ overlap-some-set_in s k.relations.small c.args.asked.now.all c.infer_plain-end.result.types k.named
    ∙ ap (λ (e : Env). not (is_empty e.type)) (c.infer_plain-end.ensures s k.relations 1) ∙ ap (ends_some s (env_in s c.args.e)) c.steps.ensures
