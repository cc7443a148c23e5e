-- `copied_rows` meets its contract: the rows before the first that is not copied pass.
use Rattle.std.proofs.Common.{◌≡◌, true, arith, refl, rules, tests}
use Rattle.std.proofs.lemmas.Iterator.{first_from_Range}
use Rattle.cells.specs.columns.Lent.{read_columns}
use Rattle.table_spec.specs.Columns.{cells_at}
use Rattle.tables.proofs.text_ranges.Ranges.{left-found}
use Rattle.tables.specs.text_ranges.Left.{copied}
use Rattle.tables.proofs.text_ranges.copied_rows.Goals as goal

pub returns : goal.returns
returns c =
    let found =
    first_from_Range _ _ _ c.find.result (λ i. i ≡ i) (λ i. copied c.args.lent.now (cells_at (read_columns c.args.table.now) i) ≡ true) c.find.ensures.ran (λ x q k. refl)
    (λ x q k. (search rules, grind (arith, tests))) in
    rw c.unwrap_or.ensures (left-found _ _ _ _ found)
