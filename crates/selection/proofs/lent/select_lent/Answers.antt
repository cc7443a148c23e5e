use borrow.Author.Tests.{not-true, not-false}
use Rattle.selection.specs.lent.Lent.{beside-inside, beside-equal, beside-columns, beside-texts, no_place, no_table, table_selected}
use Rattle.selection.proofs.lent.select_lent.Goals.{then-paths-place-via-then-paths-place, then-paths-place-via-else-paths-place+then-not-is_table_beside}
use Rattle.selection.proofs.lent.select_lent.Goals as goal

pub returns-then-paths-place : goal.returns-then-paths-place
returns-then-paths-place c s held =
    elim c.then-paths-place.branch [
      | then-paths-place-via-then-paths-place w ↦ no_place s _ _ _ _ _ _ _ _ _ w.if-paths-place.true (rw c.of.ensures at c.refused.ensures)
      | then-paths-place-via-else-paths-place+then-not-is_table_beside w ↦
          no_table s _ _ _ _ _ _ _ _ _ w.if-paths-place.false _ _ w.is_table_beside.ensures held (not-true _ w.if-not-is_table_beside.true-raw) (rw c.of.ensures at c.refused.ensures)
    ]

pub first-requires-clause-equal : goal.first-requires-clause-equal
first-requires-clause-equal c = beside-equal _ _ _ _ c.is_table_beside.ensures c.requires.1 (not-false _ c.if-not-is_table_beside.false-raw)

pub first-requires-clause-room : goal.first-requires-clause-room
first-requires-clause-room c = (beside-inside _ _ _ _ c.is_table_beside.ensures c.requires.1 (not-false _ c.if-not-is_table_beside.false-raw)).numbered

pub select_table-requires : goal.select_table-requires
select_table-requires c =
    let tests = c.is_table_beside.ensures in
    let passes = not-false _ c.if-not-is_table_beside.false-raw in
    (c.requires.0, c.if-paths-place.false, beside-columns _ _ _ _ tests c.requires.1 passes _ c.first.ensures, beside-texts _ _ _ _ tests c.requires.1 passes _ c.first.ensures)

pub returns : goal.returns
returns c s held =
    table_selected s _ _ _ _ _ _ _ _ _ c.if-paths-place.false _ _ c.is_table_beside.ensures held (not-false _ c.if-not-is_table_beside.false-raw) _ c.first.ensures
    (λ rows w. c.select_table.ensures _ _ rows w)
