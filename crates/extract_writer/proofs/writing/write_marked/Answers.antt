-- `write_marked` meets its contract: too little room, or the fields, the count and zeros.
use mathlib.Core.Path.{refl}
use native.Mathlib.Omega.{arith}
use borrow.Author.Rules.{rules}
use Rattle.extract_writer.specs.writing.Extract.{measure-pass, extract-low, extract-size, fields-pass, count_room, extract-put, short-bytes, extract-left}
use Rattle.extract_writer.proofs.writing.write_marked.Goals as goal

pub measure-measured-requires : goal.measure-measured-requires
measure-measured-requires c = measure-pass _ _ _ c.requires

pub overflow_add-size : goal.overflow_add-size
overflow_add-size c =
    omega (arith, extract-low _ _ _ c.requires _ _ c.measure-measured.ensures)

pub returns-then-out-size : goal.returns-then-out-size
returns-then-out-size c =
    let size = extract-size _ _ _ c.requires _ _ c.measure-measured.ensures in
    short-bytes _ _ _ _ size c.if-out-size.true c.fill_from.ensures

pub put_rows-requires : goal.put_rows-requires
put_rows-requires c =
    fields-pass _ _ _ c.requires _ _ c.measure-measured.ensures _ refl c.if-out-size.false

pub put_count-requires : goal.put_count-requires
put_count-requires c =
    count_room _ _ _ c.requires _ _ c.measure-measured.ensures _ _ c.put_rows.ensures refl c.if-out-size.false

pub returns : goal.returns
returns c =
    let size = extract-size _ _ _ c.requires _ _ c.measure-measured.ensures in
    let left = extract-left _ _ _ _ _ refl size c.if-out-size.false (extract-put _ _ _ c.requires _ _ c.measure-measured.ensures _ _ c.put_rows.ensures _ c.put_count.ensures) c.clear_rest.ensures in
    search (rules, left)
