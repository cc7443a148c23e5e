-- `read_field` meets its contract: the item by its tag.
use mathlib.Core.Bool.{true}
use mathlib.Core.Path.{◌≡◌, sym, ◌∙◌}
use native.Mathlib.Omega.{arith}
use Rattle.extract_reader.specs.fields.FieldLaws.{length-inside, value-inside, value-pass, field-none, field-element, field-text, field-count, field-unknown}
use Rattle.projection_laws.specs.extract_passes.Steps.{has_field}
use Rattle.extract_reader.proofs.reading.Reader.read_field.Goals.{Else-not-has_field}
use Rattle.extract_reader.proofs.reading.Reader.read_field.Goals as goal

-- a whole field stands at the place
stands : (c : Else-not-has_field) → has_field c.args.self.now.extract.now c.args.self.now.carried.at ≡ true
stands c = sym c.has_field.ensures ∙ c.if-not-has_field.false

pub returns-then-not-has_field : goal.returns-then-not-has_field
returns-then-not-has_field c = field-none _ _ _ _ c.requires (sym c.has_field.ensures ∙ c.if-not-has_field.true)

pub two_bytes-size-requires : goal.two_bytes-size-requires
two_bytes-size-requires c = length-inside _ _ (stands (goal.at.two_bytes-size-requires c).Else-not-has_field)

pub bounds-self-at : goal.bounds-self-at
bounds-self-at c = omega (arith, length-inside _ _ (stands (goal.at.bounds-self-at c).Else-not-has_field))

pub element_field-requires : goal.element_field-requires
element_field-requires c =
    value-pass _ _ _ c.requires (stands (goal.at.element_field-requires c).Else-not-has_field) _ c.two_bytes-size.ensures

pub text_field-requires : goal.text_field-requires
text_field-requires c =
    value-pass _ _ _ c.requires (stands (goal.at.text_field-requires c).Else-not-has_field) _ c.two_bytes-size.ensures

pub count_field-requires : goal.count_field-requires
count_field-requires c = value-inside _ _ (stands (goal.at.count_field-requires c).Else-not-has_field) _ c.two_bytes-size.ensures

pub returns-in-1 : goal.returns-in-1
returns-in-1 c =
    field-element _ _ _ _ c.requires (stands (goal.at.returns-in-1 c).Else-not-has_field) _ c.two_bytes-size.ensures _ c.in-1.is c.element_field.ensures

pub returns-in-2 : goal.returns-in-2
returns-in-2 c =
    field-text _ _ _ _ c.requires (stands (goal.at.returns-in-2 c).Else-not-has_field) _ c.two_bytes-size.ensures _ c.in-2.is c.text_field.ensures

pub returns-in-3 : goal.returns-in-3
returns-in-3 c =
    field-count _ _ _ _ c.requires (stands (goal.at.returns-in-3 c).Else-not-has_field) _ c.two_bytes-size.ensures _ c.in-3.is c.count_field.ensures

pub returns-in_default : goal.returns-in_default
returns-in_default c =
    field-unknown _ _ _ _ c.requires (stands (goal.at.returns-in_default c).Else-not-has_field) _ c.two_bytes-size.ensures c.in_default.in_default-own.rest.0.0.1 c.in_default.in_default-own.rest.0.1 c.in_default.in_default-own.rest.1
