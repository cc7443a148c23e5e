-- `ending` meets its contract: the byte decides between two axes.
use Rattle.std.proofs.Common.{refl, arith}
use Rattle.bundle_text.proofs.axes.Axes.{axis-end, ending-not, ending-colon, ending-hyphen}
use Rattle.bundle_text.proofs.axes.ending.Goals as goal

pub returns-then-s-at : goal.returns-then-s-at
returns-then-s-at c = axis-end _ _ _ (λ x. refl) c.if-s-at.true

pub returns-in-58 : goal.returns-in-58
returns-in-58 c = ending-colon _ _ c.if-s-at.false c.args.axis c.args.longer c.args.e.now c.in-58.is c.rest.ensures

pub returns-in-45 : goal.returns-in-45
returns-in-45 c = ending-hyphen _ _ c.if-s-at.false c.args.axis c.args.longer c.args.e.now c.in-45.is c.requires.1 c.rest-in-45.ensures

pub returns-in_default : goal.returns-in_default
returns-in_default c = ending-not _ _ c.if-s-at.false c.args.axis c.args.longer c.args.e.now (λ e. omega arith) (λ e. omega arith)
