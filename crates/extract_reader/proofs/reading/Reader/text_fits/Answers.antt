-- `text_fits` meets its contract: the tests of `text_under` in turn.
use mathlib.Core.Bool.{not}
use mathlib.Core.Path.{ap, ◌∙◌}
use Rattle.extract_reader.specs.field_tests.TestLaws.{text-none, text-after, text-held}
use Rattle.extract_reader.proofs.reading.Reader.text_fits.Goals as goal

pub returns-then-depth-eq0 : goal.returns-then-depth-eq0
returns-then-depth-eq0 c = text-none _ _ _ _ c.if-depth-eq0.true

pub returns-then-not-self : goal.returns-then-not-self
returns-then-not-self c =
    text-held _ _ _ _ c.if-depth-eq0.false c.if-not-self.true _ _ c.has_bit.ensures c.last_element-parent.ensures.element

pub returns-else-not-self : goal.returns-else-not-self
returns-else-not-self c = let after = c.if-not-self.false in ap not after ∙ text-after _ _ _ _ after
