use Rattle.std.proofs.Common.{arith}
use Rattle.selection.specs.Steps.{no_steps, first-at, later-pass, later-marked}
use Rattle.axis_passes.specs.scratch.Scratch.{kept-kept}
use Rattle.selection.proofs.steps_from_root.Goals as goal

pub mark_root-requires : goal.mark_root-requires
mark_root-requires c = omega (arith, c.requires.room-marks, c.requires.table.filled)

pub returns-then-steps-clause-marks : goal.returns-then-steps-clause-marks
returns-then-steps-clause-marks c = no_steps _ _ _ _ _ _ c.requires _ c.if-steps.true c.mark_root.ensures

pub first_step-requires : goal.first_step-requires
first_step-requires c = first-at _ _ _ _ _ _ c.requires c.if-steps.false

pub steps_from-requires : goal.steps_from-requires
steps_from-requires c = later-pass _ _ _ _ _ _ c.requires _ c.first_step.ensures.marks c.if-steps.false _ c.first_step.ensures.kept

pub returns-clause-marks : goal.returns-clause-marks
returns-clause-marks c = later-marked _ _ _ _ _ _ c.requires _ c.first_step.ensures.marks c.if-steps.false _ c.steps_from.ensures.marks

pub returns-clause-kept : goal.returns-clause-kept
returns-clause-kept c = kept-kept c.first_step.ensures.kept c.steps_from.ensures.kept
