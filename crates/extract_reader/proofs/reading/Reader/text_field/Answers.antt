-- `text_field` meets its contract: each test that fails is a wrong step, and all together the text's.
use mathlib.Core.Path.{refl, ◌∙◌}
use Prim.Native.Nat.{◌-◌}
use native.Mathlib.Omega.{arith}
use Rattle.extract_reader.proofs.field_values.Values.{text-under-five, text-over, text-unplaced, text-numbered, text-placed, text-foreign, text-accepted, value-level}
use Rattle.extract_reader.proofs.reading.Reader.text_field.Goals as goal

pub returns-then-size-lt5 : goal.returns-then-size-lt5
returns-then-size-lt5 c = text-under-five _ _ _ _ _ c.requires c.if-size-lt5.true

pub returns-then-size : goal.returns-then-size
returns-then-size c = text-over _ _ _ _ _ c.requires c.if-size.true

pub returns-in_err-depth : goal.returns-in_err-depth
returns-in_err-depth c =
    rw c.from_residual.ensures
    (text-unplaced _ _ _ _ _ c.requires (c.args.size - 4) (omega arith) _ _ _ c.two_bytes-number.ensures (c.from.ensures ∙ c.two_bytes.ensures) c.in_err-depth.ensures refl)

pub returns-then-not-number_fits : goal.returns-then-not-number_fits
returns-then-not-number_fits c =
    text-numbered _ _ _ _ _ c.requires (c.args.size - 4) (omega arith) _ _ _ c.two_bytes-number.ensures (c.from.ensures ∙ c.two_bytes.ensures) c.in_ok-depth.ensures.0 _ (rw c.from-2.ensures at c.number_fits.ensures) c.if-not-number_fits.true

pub text_fits-requires : goal.text_fits-requires
text_fits-requires c =
    value-level _ _ _ _ c.requires _ _ c.in_ok-depth.ensures.0

pub returns-then-not-text_fits : goal.returns-then-not-text_fits
returns-then-not-text_fits c =
    text-placed _ _ _ _ _ c.requires (c.args.size - 4) (omega arith) _ _ _ c.two_bytes-number.ensures (c.from.ensures ∙ c.two_bytes.ensures) c.in_ok-depth.ensures.0 _ c.text_fits.ensures c.if-not-text_fits.true

pub returns-then-any_foreign : goal.returns-then-any_foreign
returns-then-any_foreign c =
    text-foreign _ _ _ _ _ c.requires (c.args.size - 4) (omega arith) _ _ 0 c.two_bytes-number.ensures (c.from.ensures ∙ c.two_bytes.ensures) _ c.any_foreign.ensures c.if-any_foreign.true

pub returns : goal.returns
returns c =
    text-accepted _ _ _ _ _ c.requires (c.args.size - 4) (omega arith) _ _ _ c.two_bytes-number.ensures (c.from.ensures ∙ c.two_bytes.ensures) _ c.any_foreign.ensures c.in_ok-depth.ensures.0 _ _ (rw c.from-2.ensures at c.number_fits.ensures) c.if-not-number_fits.false c.text_fits.ensures c.if-not-text_fits.false (omega arith) (omega arith) c.if-any_foreign.false
