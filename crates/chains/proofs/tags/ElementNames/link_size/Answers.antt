use native.Mathlib.Omega.{arith}
use Rattle.chains.specs.tags.Chains.{link-size-element, link-size-text}
use Rattle.chains.proofs.tags.ElementNames.link_size.Goals as goal

pub overflow_add-result : goal.overflow_add-result
overflow_add-result c = omega (arith, c.requires.small c.args.code (omega arith))

pub returns-then-e-lt-MAX_ELEMENTS : goal.returns-then-e-lt-MAX_ELEMENTS
returns-then-e-lt-MAX_ELEMENTS c = link-size-element _ _ (omega arith)

pub returns-else-e-lt-MAX_ELEMENTS : goal.returns-else-e-lt-MAX_ELEMENTS
returns-else-e-lt-MAX_ELEMENTS c = link-size-text _ _ (omega arith)
