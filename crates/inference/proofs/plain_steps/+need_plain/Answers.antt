-- No step is left, or the first is inferred and then those after it.
use Rattle.std.proofs.Common.{refl, sym, subst, List, suc}
use Rattle.std.proofs.lemmas.List.{nil_from_length}
use Rattle.compiled_paths.specs.declared.Step.{Step}
use Rattle.inference_spec.specs.Needed.{keeps_all, wants_nothing}
use Rattle.inference.specs.back_steps.Laws.{needs-last}
use Rattle.inference.specs.back_steps.Needs.{NeedsOf}
use Rattle.inference.specs.plain_steps.Laws.{analysed, needs-plain-step}
use Rattle.inference.specs.type_steps.Envs.{env_in}
use Rattle.inference.proofs.plain_steps.+need_plain.Goals as goal

pub returns-in-Some : goal.returns-in-Some
returns-in-Some t c = λ s k i.
    let first = c.in-Some.ensures.cases in
    subst (λ (l : List Step). NeedsOf s keeps_all wants_nothing (analysed i l) (env_in s c.args.e) c.with_written_step.result) (sym first.0)
    (needs-plain-step s i c.in-Some.step.now c.in-Some.rest.now (env_in s c.args.e) (env_in s c.written_step-f.result) c.empty.result c.need_plain-later.result c.with_written_step.result
    (c.written_step-f.ensures s k) c.empty.ensures (c.need_plain-later.ensures s k (suc i)) (c.with_written_step.ensures s k))

pub returns-in-None : goal.returns-in-None
returns-in-None t c = λ s k i.
    subst (λ (l : List Step). NeedsOf s keeps_all wants_nothing (analysed i l) (env_in s c.args.e) (record { complete = c.args.e.types; names = c.args.e.types })) (sym (nil_from_length c.args.steps.now c.in-None.ensures.cases))
    (needs-last s keeps_all wants_nothing (env_in s c.args.e) c.args.e.types refl)
