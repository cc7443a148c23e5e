-- `row_text` meets its contract: the part that the answer says, which lies inside the lent text.
use Rattle.std.proofs.Common.{arith, refl}
use Rattle.tables.specs.row_text.Answers.{text-inside, part-element, part-refused, part-text}
use Rattle.tables.proofs.row_text.row_text.Goals as goal

pub overflow_add-result : goal.overflow_add-result
overflow_add-result c =
    let inside = text-inside _ _ _ _ _ (rw c.in-Ok-Some.field-0-is at c.in-Ok-Some.ensures) _ refl in
    omega arith

pub slice_bounds-result-end : goal.slice_bounds-result-end
slice_bounds-result-end c =
    let inside = text-inside _ _ _ _ _ (rw c.in-Ok-Some.field-0-is at c.in-Ok-Some.ensures) _ refl in
    omega arith

pub returns-in-Ok-Some : goal.returns-in-Ok-Some
returns-in-Ok-Some c = part-text _ _ _ (rw c.in-Ok-Some.field-0-is at c.in-Ok-Some.ensures)

pub returns-in-Ok-None : goal.returns-in-Ok-None
returns-in-Ok-None c = part-element _ _ (rw c.in-Ok-None.field-0-is at c.in-Ok-None.ensures)

pub returns-in-Err : goal.returns-in-Err
returns-in-Err c = part-refused _ _ _ c.in-Err.ensures
