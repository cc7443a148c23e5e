-- `alternative` meets its contract: step by step.
use Rattle.std.proofs.Common.{ap, ◌∙◌}
use Rattle.bundle_text.proofs.alternatives.Reading.{up-to-start, up-to-ends, up-to-next}
use Rattle.bundle_text.specs.notes.Notes.{with_inner}
use Rattle.bundle_text.proofs.alternatives.alternative.Goals as goal

pub loop-step-init : goal.loop-step-init
loop-step-init c = up-to-start c.requires.within c.requires.few

pub returns-then-not-stands : goal.returns-then-not-stands
returns-then-not-stands c =
    up-to-ends c.loop-step.invariant c.plain_step.ensures c.in_ok-step.was c.stands.ensures c.if-not-stands.true
    (c.note_inner.ensures ∙ ap (with_inner c.loop-step.notes) c.last.ensures)

pub loop-step-preserved : goal.loop-step-preserved
loop-step-preserved c =
    up-to-next c.loop-step.invariant c.plain_step.ensures c.in_ok-step.was c.stands.ensures c.if-not-stands.false c.note_inner-in-loop-step.ensures
