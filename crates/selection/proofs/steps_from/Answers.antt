use Rattle.std.proofs.Common.{refl, sym, ◌∙◌, arith}
use borrow.Author.Tests.{not-true}
use Rattle.selection.specs.Steps.{steps-begun, steps-pass, steps_next, steps_all, steps-ended}
use Rattle.selection.proofs.steps_from.Goals as goal

pub loop-k-init : goal.loop-k-init
loop-k-init c = steps-begun _ _ _ _ _ _ c.requires (record { held = refl; steps = refl; next = refl; held-size = refl; steps-size = refl; next-size = refl })

pub returns-then-not-any_marked-clause-marks : goal.returns-then-not-any_marked-clause-marks
returns-then-not-any_marked-clause-marks c =
    let at = c.loop-k in
    steps-ended _ _ _ _ _ _ c.requires at.k at.marks at.scratch at.invariant
    (sym c.any_marked.ensures ∙ not-true _ c.if-not-any_marked.true-raw)

pub step-requires : goal.step-requires
step-requires c =
    let at = c.loop-k in
    steps-pass _ _ _ _ _ _ c.requires at.k at.marks at.scratch at.invariant (omega arith)

pub loop-k-preserved : goal.loop-k-preserved
loop-k-preserved c =
    let at = c.loop-k in
    steps_next _ _ _ _ _ _ c.requires at.k at.marks at.scratch at.invariant _ _ (omega arith) c.step.ensures.marks c.step.ensures.kept

pub returns-clause-marks : goal.returns-clause-marks
returns-clause-marks c =
    let at = c.loop-k in
    steps_all _ _ _ _ _ _ c.requires at.k at.marks at.scratch at.invariant (omega arith)
