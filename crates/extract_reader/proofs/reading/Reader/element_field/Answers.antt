-- `element_field` meets its contract: each test that fails is a wrong step, and all together the element's.
use mathlib.Core.Path.{refl, ◌∙◌}
use Rattle.extract_reader.proofs.field_values.Values.{element-misfit, element-unplaced, element-numbered, element-placed, element-accepted, value-level}
use Rattle.extract_reader.proofs.reading.Reader.element_field.Goals as goal

pub returns-then-size-ne5 : goal.returns-then-size-ne5
returns-then-size-ne5 c = element-misfit _ _ _ _ _ c.requires c.if-size-ne5.true

pub returns-in_err-depth : goal.returns-in_err-depth
returns-in_err-depth c =
    rw c.from_residual.ensures
    (element-unplaced _ _ _ _ _ c.requires c.if-size-ne5.false _ _ _ _ c.two_bytes-number.ensures (c.from.ensures ∙ c.two_bytes.ensures) refl c.in_err-depth.ensures refl)

pub returns-then-not-number_fits : goal.returns-then-not-number_fits
returns-then-not-number_fits c =
    element-numbered _ _ _ _ _ c.requires c.if-size-ne5.false _ _ _ _ c.two_bytes-number.ensures (c.from.ensures ∙ c.two_bytes.ensures) refl c.in_ok-depth.ensures.0 _ (rw c.from-2.ensures at c.number_fits.ensures) c.if-not-number_fits.true

pub element_fits-requires : goal.element_fits-requires
element_fits-requires c =
    value-level _ _ _ _ c.requires _ _ c.in_ok-depth.ensures.0

pub returns-then-not-element_fits : goal.returns-then-not-element_fits
returns-then-not-element_fits c =
    element-placed _ _ _ _ _ c.requires c.if-size-ne5.false _ _ _ _ c.two_bytes-number.ensures (c.from.ensures ∙ c.two_bytes.ensures) refl c.in_ok-depth.ensures.0 _ c.element_fits.ensures c.if-not-element_fits.true

pub returns : goal.returns
returns c =
    element-accepted _ _ _ _ _ c.requires c.if-size-ne5.false _ _ _ _ c.two_bytes-number.ensures (c.from.ensures ∙ c.two_bytes.ensures) refl c.in_ok-depth.ensures.0 _ _ (rw c.from-2.ensures at c.number_fits.ensures) c.if-not-number_fits.false c.element_fits.ensures c.if-not-element_fits.false
