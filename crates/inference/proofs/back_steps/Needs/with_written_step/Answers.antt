-- `Needs::with_written_step` meets its contract: by the axis.
use Rattle.compiled_paths.specs.Steps.{axis_of}
use Rattle.inference.specs.type_steps.Envs.{env_in}
use Rattle.inference.specs.written_steps.Laws.{written-along, along-needs}
use Rattle.inference.proofs.back_steps.Needs.with_written_step.Goals as goal

pub returns-in_default : goal.returns-in_default
returns-in_default c = λ s k.
    rw (written-along c.args.axis c.in_default.not-Following c.in_default.not-FollowingSibling c.in_default.not-Preceding c.in_default.not-PrecedingSibling)
    (along-needs s (axis_of c.args.axis) (env_in s c.args.e) c.args.wanted c.args.self c.with_step.result (c.with_step.ensures s k))
