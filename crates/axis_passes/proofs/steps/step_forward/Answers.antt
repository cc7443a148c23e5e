use native.Mathlib.Omega.{arith}
use Rattle.axis_passes.specs.steps.Steps.{pass-axis, moved-test, moved}
use Rattle.axis_passes.proofs.steps.step_forward.Goals as goal

pub axis_image-requires : goal.axis_image-requires
axis_image-requires c = pass-axis _ _ _ _ c.requires

pub filter_test-requires : goal.filter_test-requires
filter_test-requires c =
    moved-test _ _ _ _ c.requires c.args.step _ _ c.axis_image.ensures (omega arith)

pub returns : goal.returns
returns c =
    moved _ _ _ _ c.requires c.args.step _ _ c.axis_image.ensures c.filter_test.ensures.marks
