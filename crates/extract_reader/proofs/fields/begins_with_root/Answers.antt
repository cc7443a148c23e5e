-- `begins_with_root` meets its contract: the root's field, that of a count, or none.
use mathlib.Core.Bool.{true}
use mathlib.Core.Path.{◌≡◌, sym, ◌∙◌}
use native.Mathlib.Omega.{arith}
use Rattle.extract_reader.specs.fields.FieldLaws.{length-inside, value-inside, first-none, first-of-root, first-of-count, first-tagged}
use Rattle.projection_laws.specs.extract_passes.Steps.{has_field}
use Rattle.extract_reader.proofs.fields.begins_with_root.Goals.{Else-not-has_field}
use Rattle.extract_reader.proofs.fields.begins_with_root.Goals as goal

-- a whole field stands first
stands : (c : Else-not-has_field) → has_field c.args.extract.now 0 ≡ true
stands c = sym c.has_field.ensures ∙ c.if-not-has_field.false

pub returns-then-not-has_field : goal.returns-then-not-has_field
returns-then-not-has_field c = first-none _ (sym c.has_field.ensures ∙ c.if-not-has_field.true)

pub two_bytes-size-requires : goal.two_bytes-size-requires
two_bytes-size-requires c = length-inside _ 0 (stands (goal.at.two_bytes-size-requires c).Else-not-has_field)

pub bounds-extract-0 : goal.bounds-extract-0
bounds-extract-0 c = omega (arith, length-inside _ 0 (stands (goal.at.bounds-extract-0 c).Else-not-has_field))

pub is_root-requires : goal.is_root-requires
is_root-requires c = value-inside _ 0 (stands (goal.at.is_root-requires c).Else-not-has_field) _ c.two_bytes-size.ensures

pub is_count-requires : goal.is_count-requires
is_count-requires c = value-inside _ 0 (stands (goal.at.is_count-requires c).Else-not-has_field) _ c.two_bytes-size.ensures

pub returns-in-1 : goal.returns-in-1
returns-in-1 c =
    first-of-root _ (stands (goal.at.returns-in-1 c).Else-not-has_field) _ c.two_bytes-size.ensures c.in-1.is _ c.is_root.ensures _ c.then_some.ensures

pub returns-in-3 : goal.returns-in-3
returns-in-3 c =
    first-of-count _ (stands (goal.at.returns-in-3 c).Else-not-has_field) _ c.two_bytes-size.ensures c.in-3.is _ c.is_count.ensures _ c.then_some-in-3.ensures

pub returns-in_default : goal.returns-in_default
returns-in_default c =
    first-tagged _ (stands (goal.at.returns-in_default c).Else-not-has_field) _ c.two_bytes-size.ensures c.in_default.in_default-own.rest.0.1 c.in_default.in_default-own.rest.1
