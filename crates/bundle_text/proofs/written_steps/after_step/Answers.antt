-- `after_step` meets its contract: the byte decides.
use Rattle.std.proofs.Common.{arith}
use Rattle.bundle_text.proofs.written_steps.Steps.{follow-end, follow-slash, follow-line, follow-not}
use Rattle.bundle_text.proofs.written_steps.after_step.Goals as goal

pub returns-then-s-at : goal.returns-then-s-at
returns-then-s-at c = record { says = follow-end _ _ c.if-s-at.true }

pub returns-in-47 : goal.returns-in-47
returns-in-47 c = record { says = follow-slash _ _ c.if-s-at.false c.in-47.is }

pub returns-in-10 : goal.returns-in-10
returns-in-10 c = record { says = follow-line _ _ c.if-s-at.false c.in-10.is }

pub returns-in_default : goal.returns-in_default
returns-in_default c = record { says = follow-not _ _ c.if-s-at.false (λ e. omega arith) (λ e. omega arith) }
