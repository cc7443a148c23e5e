use Rattle.journal_reader.specs.rows.Kept.{same-all, row-kept}
use Rattle.journal_reader.specs.rows.Rows.{row_kept, row-begun}
use Rattle.journal_reader.proofs.rows.add_row.Goals as goal

pub returns-in-Some-clause-row : goal.returns-in-Some-clause-row
returns-in-Some-clause-row c = row-begun c.in-Some.row c.requires c.in-Some.is c.put_row.ensures.cells

pub returns-in_default-clause-row : goal.returns-in_default-clause-row
returns-in_default-clause-row c = row_kept c.requires c.in_default.is

pub returns-in-Some-clause-same : goal.returns-in-Some-clause-same
returns-in-Some-clause-same c = row-kept c.args.count _ c.put_row.ensures

pub returns-in_default-clause-same : goal.returns-in_default-clause-same
returns-in_default-clause-same c = same-all _
