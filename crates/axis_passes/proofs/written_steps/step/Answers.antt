use Rattle.std.proofs.Common.{refl, arith}
use Rattle.axis_passes.specs.written_steps.Steps.{step-pass, step_kept, step-marked}
use Rattle.axis_passes.proofs.written_steps.step.Goals as goal

pub step_forward-requires : goal.step_forward-requires
step_forward-requires c = step-pass _ _ _ _ _ c.requires

pub keep-requires : goal.keep-requires
keep-requires c =
    step_kept _ _ _ _ _ c.requires _ _ _ _ c.condition.ensures c.step_forward.ensures
    (record { held = refl; steps = refl; next = refl; held-size = refl; steps-size = refl; next-size = omega arith })

pub returns-clause-marks : goal.returns-clause-marks
returns-clause-marks c = step-marked c.args.rows.now c.args.paths.now c.args.k _ _ _ _ _ c.condition.ensures c.step_forward.ensures c.keep.ensures.marks
