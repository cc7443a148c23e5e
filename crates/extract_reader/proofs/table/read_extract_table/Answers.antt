-- `read_extract_table` meets its contract: the columns hold the rows, or are clear.
use mathlib.Core.Path.{sym, ◌∙◌}
use Rattle.extract_reader.specs.table.Tables.{cleared-sizes, cleared-first, table_kept, table-cleared}
use Rattle.extract_reader.proofs.table.read_extract_table.Goals as goal

pub judge-answer-requires-clause-clear : goal.judge-answer-requires-clause-clear
judge-answer-requires-clause-clear c = (cleared-first _ _ c.requires c.clear.ensures.cells).1

pub returns-then-is_err-clause-sizes : goal.returns-then-is_err-clause-sizes
returns-then-is_err-clause-sizes c =
    cleared-sizes _ _ c.clear-then-is_err.ensures.cells ∙ c.judge-answer.ensures.sizes ∙ cleared-sizes _ _ c.clear.ensures.cells

pub returns-then-is_err-clause-read : goal.returns-then-is_err-clause-read
returns-then-is_err-clause-read c =
    table-cleared _ _ _ _ _ _ c.clear.ensures.cells c.judge-answer.ensures.judged (sym c.is_err.ensures.value ∙ c.if-is_err.true) c.judge-answer.ensures.sizes _ c.clear-then-is_err.ensures.cells

pub returns-else-is_err-clause-sizes : goal.returns-else-is_err-clause-sizes
returns-else-is_err-clause-sizes c = c.judge-answer.ensures.sizes ∙ cleared-sizes _ _ c.clear.ensures.cells

pub returns-else-is_err-clause-read : goal.returns-else-is_err-clause-read
returns-else-is_err-clause-read c =
    table_kept _ _ _ _ _ _ c.clear.ensures.cells c.judge-answer.ensures.judged (sym c.is_err.ensures.value ∙ c.if-is_err.false)
