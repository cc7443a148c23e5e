-- `parent_or_preceding` meets its contract: the byte after `p` decides.
use Rattle.std.proofs.Common.{refl, arith}
use Rattle.bundle_text.proofs.axes.Axes.{axis-end, after-p-parent, after-p-preceding, after-p-not}
use Rattle.bundle_text.proofs.axes.parent_or_preceding.Goals as goal

pub returns-then-s-at : goal.returns-then-s-at
returns-then-s-at c = axis-end _ _ _ (λ x. refl) c.if-s-at.true

pub returns-in-97 : goal.returns-in-97
returns-in-97 c = after-p-parent _ _ c.if-s-at.false c.in-97.is c.rest.ensures

pub returns-in-114 : goal.returns-in-114
returns-in-114 c = after-p-preceding _ _ c.if-s-at.false c.in-114.is c.either.ensures

pub returns-in_default : goal.returns-in_default
returns-in_default c = after-p-not _ _ c.if-s-at.false (λ e. omega arith) (λ e. omega arith)
