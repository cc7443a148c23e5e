use mathlib.Core.Path.{sym, ◌∙◌}
use borrow.Author.Tests.{not-true}
use Rattle.axis_passes.specs.steps.Steps.{pass-test, tested-axis, moved_back, none-back}
use Rattle.axis_passes.proofs.steps.step_back.Goals as goal

pub filter_test-requires : goal.filter_test-requires
filter_test-requires c = pass-test _ _ _ _ c.requires

pub returns-then-not-any_marked : goal.returns-then-not-any_marked
returns-then-not-any_marked c =
    none-back _ _ _ _ c.requires c.args.step _ c.filter_test.ensures.marks _
    (sym c.any_marked.ensures ∙ not-true _ c.if-not-any_marked.true-raw)
    (c.fill.ensures.after (λ y e. e))

pub axis_image-requires : goal.axis_image-requires
axis_image-requires c =
    tested-axis _ _ _ _ c.requires c.args.step _ c.filter_test.ensures.marks

pub returns : goal.returns
returns c =
    moved_back _ _ _ _ c.requires c.args.step _ c.filter_test.ensures.marks _ _ c.inverse_of.ensures
    c.axis_image.ensures
