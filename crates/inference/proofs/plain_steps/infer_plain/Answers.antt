-- `infer_plain` meets its contract: one step, then those after it.
use Rattle.std.proofs.Common.{List, ◌+◌, sym, ap, ◌∙◌}
use Rattle.std.proofs.lemmas.List.{drop_all}
use Rattle.compiled_paths.specs.declared.Step.{Step}
use Rattle.inference_spec.specs.Needed.{keeps_all}
use Rattle.inference_spec.specs.Types.{infer_all}
use Rattle.inference.specs.plain_steps.Laws.{analysed, infer-step-at}
use Rattle.inference.specs.type_steps.Envs.{env_in}
use Rattle.schema_spec.specs.Types.{types_of}
use Rattle.inference.proofs.plain_steps.infer_plain.Goals as goal

pub loop-step-preserved : goal.loop-step-preserved
loop-step-preserved c = λ s k i.
    let at = c.loop-step in
    infer-step-at s i at.step-index c.args.steps.now (env_in s at.reached) (env_in s c.written_step-reached.result) c.loop-step-test.true (c.written_step-reached.ensures s k) ∙ at.invariant s k i

pub returns : goal.returns
returns c = λ s k i.
    let at = c.loop-step in
    ap (λ (l : List Step). infer_all (types_of s) keeps_all (analysed (i + at.step-index) l) (env_in s at.reached)) (sym (drop_all at.step-index c.args.steps.now c.loop-step-test.false))
    ∙ at.invariant s k i
