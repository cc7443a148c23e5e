-- `path` meets its contract: step by step, up to the line feed.
use Rattle.std.specs.Prelude.{Ok}
use Rattle.std.proofs.Common.{refl, ap, ◌∙◌}
use Rattle.std.proofs.lemmas.Result.{err_from_is_err_and}
use Rattle.bundle_text.specs.written_steps.Lines.{upto-start, upto-fails, upto-stops, upto_next, upto-closes}
use Rattle.bundle_text.proofs.lines.path.Goals as goal

pub loop-step-init : goal.loop-step-init
loop-step-init c = upto-start c.requires.0 c.requires.2 c.requires.1.few

pub returns-in_err-step : goal.returns-in_err-step
returns-in_err-step c =
    let p = err_from_is_err_and c.from_residual.result c.from_residual.ensures.1 in
    rw (p.1, p.2) (upto-fails c.loop-step.invariant c.requires.0 c.uncounted_step.ensures c.in_err-step.was)

pub returns-in_err-next : goal.returns-in_err-next
returns-in_err-next c =
    let p = err_from_is_err_and c.from_residual-in_err-next.result c.from_residual-in_err-next.ensures.1 in
    rw (p.1, p.2) (upto-stops c.loop-step.invariant c.requires.0 c.uncounted_step.ensures c.in_ok-step.was c.count_outer.ensures refl c.after_step.ensures c.in_err-next.was)

pub loop-step-preserved : goal.loop-step-preserved
loop-step-preserved c =
    upto_next c.loop-step.invariant c.requires.0 c.uncounted_step.ensures c.in_ok-step.was c.count_outer.ensures refl c.after_step.ensures (c.in_ok-next.was ∙ ap Ok c.in-More.is)

pub returns-in-Close : goal.returns-in-Close
returns-in-Close c =
    upto-closes c.loop-step.invariant c.requires.0 c.uncounted_step.ensures c.in_ok-step.was c.count_outer.ensures refl c.after_step.ensures (c.in_ok-next.was ∙ ap Ok c.in-Close.is)
