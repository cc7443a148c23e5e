-- `element_fits` meets its contract: the tests of `element_under` in turn.
use mathlib.Core.Path.{◌∙◌}
use native.Mathlib.Omega.{arith}
use borrow.Author.Tests.{le-ltb}
use Rattle.extract_reader.specs.field_tests.TestLaws.{element-none, element-deep, element-held}
use Rattle.extract_reader.proofs.reading.Reader.element_fits.Goals as goal

pub returns-then-depth-eq0 : goal.returns-then-depth-eq0
returns-then-depth-eq0 c = element-none _ _ _ _ c.if-depth-eq0.true

pub returns-then-depth-lt-MAX_DEPTH : goal.returns-then-depth-lt-MAX_DEPTH
returns-then-depth-lt-MAX_DEPTH c =
    element-held _ _ _ _ c.if-depth-eq0.false (λ z. omega (arith, c.if-depth-lt-MAX_DEPTH.true)) c.requires.shallow _ _ c.holds_element.ensures c.last_element.ensures.element

pub returns-else-depth-lt-MAX_DEPTH : goal.returns-else-depth-lt-MAX_DEPTH
returns-else-depth-lt-MAX_DEPTH c =
    le-ltb _ _ c.if-depth-lt-MAX_DEPTH.false ∙ element-deep _ _ _ _ (omega (arith, c.if-depth-lt-MAX_DEPTH.false, c.requires.shallow))
