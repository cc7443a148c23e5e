-- `next_row` meets its contract: what the field says, as a step of the pass.
use Rattle.std.proofs.Common.{Some, refl, ap, ◌∙◌}
use Rattle.extract_reader.specs.field_rows.StepLaws.{steps-wrong, steps-last, element_place, steps-element, widths-element, text-place, steps-text, widths-text}
use Rattle.extract_reader.proofs.reading.Reader.next_row.Goals as goal

pub read_field-requires : goal.read_field-requires
read_field-requires c = c.requires.field-pass

pub returns-in_default-clause-step : goal.returns-in_default-clause-step
returns-in_default-clause-step c = rw c.of.ensures (steps-wrong _ c.requires _ c.read_field.ensures c.in_default.is)

pub returns-in-Count-clause-step : goal.returns-in-Count-clause-step
returns-in-Count-clause-step c = steps-last _ c.requires _ c.read_field.ensures _ (record { extract = refl; words = refl }) refl (c.in-Some.is ∙ ap Some c.in-Count.is)

pub element_row-requires : goal.element_row-requires
element_row-requires c = element_place c.args.self.now c.requires _ c.read_field.ensures _ _ _ (c.in-Some.is ∙ ap Some c.in-Element.is)

pub returns-in-Element-clause-step : goal.returns-in-Element-clause-step
returns-in-Element-clause-step c =
    steps-element _ c.requires _ c.read_field.ensures _ _ _ (c.in-Some.is ∙ ap Some c.in-Element.is) _ _ c.element_row.ensures

pub returns-in-Element-clause-widths : goal.returns-in-Element-clause-widths
returns-in-Element-clause-widths c =
    widths-element _ c.requires _ c.read_field.ensures _ _ _ (c.in-Some.is ∙ ap Some c.in-Element.is) _ _ c.element_row.ensures

pub text_row-requires : goal.text_row-requires
text_row-requires c = text-place c.args.self.now c.requires _ c.read_field.ensures _ _ _ (c.in-Some.is ∙ ap Some c.in-Text.is)

pub returns-in-Text-clause-step : goal.returns-in-Text-clause-step
returns-in-Text-clause-step c =
    steps-text _ c.requires _ c.read_field.ensures _ _ _ (c.in-Some.is ∙ ap Some c.in-Text.is) _ _ c.text_row.ensures

pub returns-in-Text-clause-widths : goal.returns-in-Text-clause-widths
returns-in-Text-clause-widths c =
    widths-text _ c.requires _ c.read_field.ensures _ _ _ (c.in-Some.is ∙ ap Some c.in-Text.is) _ _ c.text_row.ensures
