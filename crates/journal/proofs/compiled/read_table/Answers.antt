use Rattle.std.proofs.Common.{rules, ◌≡◌, true, false, ◌∙◌}
use Rattle.std.specs.Prelude.{is_err}
use Rattle.cells.specs.columns.Lent.{lent_columns}
use Rattle.journal.specs.compiled.Tables.{cleared-equal, cleared-sizes, cleared-kept, not-refused, was-refused, table_kept, table-cleared}
use Rattle.journal_reader.specs.rows.Kept.{same-then}
use Rattle.journal.proofs.compiled.read_table.Goals as goal

pub judge-read-requires : goal.judge-read-requires
judge-read-requires c = (c.requires.0, cleared-equal _ _ c.requires.1 c.clear.ensures.cells, c.requires.2, c.requires.3)

pub returns-then-is_err-clause-same : goal.returns-then-is_err-clause-same
returns-then-is_err-clause-same c = same-then (same-then (cleared-kept c.clear.ensures) c.judge-read.ensures.same) (cleared-kept c.clear-then-is_err.ensures)

pub returns-then-is_err-clause-read : goal.returns-then-is_err-clause-read
returns-then-is_err-clause-read c =
    let t : is_err c.judge-read.result ≡ true = search rules in
    let w = was-refused c.judge-read.result t in
    table-cleared _ _ c.clear.ensures.cells c.judge-read.ensures.judged w.0 w.1 c.clear-then-is_err.ensures.cells
    (c.judge-read.ensures.same.sizes ∙ cleared-sizes (lent_columns c.args.columns.now) _ c.clear.ensures.cells)

pub returns-else-is_err-clause-same : goal.returns-else-is_err-clause-same
returns-else-is_err-clause-same c = same-then (cleared-kept c.clear.ensures) c.judge-read.ensures.same

pub returns-else-is_err-clause-read : goal.returns-else-is_err-clause-read
returns-else-is_err-clause-read c =
    let t : is_err c.judge-read.result ≡ false = search rules in
    let w = not-refused c.judge-read.result t in
    table_kept _ _ c.clear.ensures.cells c.judge-read.ensures.judged w.0 w.1
