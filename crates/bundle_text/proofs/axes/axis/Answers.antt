-- `axis` meets its contract: the first byte says which axes may still be meant.
use Rattle.std.proofs.Common.{refl, arith}
use Rattle.bundle_text.proofs.axes.Axes.{axis-end, first-child, first-self, first-descendant, first-ancestor, first-following, first-p, first-not}
use Rattle.bundle_text.proofs.axes.axis.Goals as goal

pub returns-then-s-at : goal.returns-then-s-at
returns-then-s-at c = axis-end _ _ _ (λ x. refl) c.if-s-at.true

pub returns-in-99 : goal.returns-in-99
returns-in-99 c = first-child _ _ c.if-s-at.false c.in-99.is c.rest.ensures

pub returns-in-100 : goal.returns-in-100
returns-in-100 c = first-descendant _ _ c.if-s-at.false c.in-100.is c.either.ensures

pub returns-in-97 : goal.returns-in-97
returns-in-97 c = first-ancestor _ _ c.if-s-at.false c.in-97.is c.either-in-97.ensures

pub returns-in-112 : goal.returns-in-112
returns-in-112 c = first-p _ _ c.if-s-at.false c.in-112.is c.parent_or_preceding.ensures

pub returns-in-115 : goal.returns-in-115
returns-in-115 c = first-self _ _ c.if-s-at.false c.in-115.is c.rest-in-115.ensures

pub returns-in-102 : goal.returns-in-102
returns-in-102 c = first-following _ _ c.if-s-at.false c.in-102.is c.either-in-102.ensures

pub returns-in_default : goal.returns-in_default
returns-in_default c =
    first-not _ _ c.if-s-at.false (λ e. omega arith) (λ e. omega arith) (λ e. omega arith) (λ e. omega arith) (λ e. omega arith) (λ e. omega arith)
