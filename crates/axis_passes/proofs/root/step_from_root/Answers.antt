use Rattle.axis_passes.specs.root.Roots.{first-root, first-test, first-marked}
use Rattle.axis_passes.proofs.root.step_from_root.Goals as goal

pub root_image-requires : goal.root_image-requires
root_image-requires c = first-root _ _ _ _ c.requires

pub filter_test-requires : goal.filter_test-requires
filter_test-requires c =
    first-test _ _ _ _ c.requires c.args.step _ c.root_image.ensures

pub returns : goal.returns
returns c =
    first-marked _ _ _ _ c.requires c.args.step _ c.root_image.ensures _ c.filter_test.ensures.marks
