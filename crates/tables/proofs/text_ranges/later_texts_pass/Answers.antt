-- `later_texts_pass` meets its contract: a test of each row that is left.
use Rattle.std.proofs.Common.{◌-◌, ◌∙◌, refl, rules, tests}
use Rattle.std.proofs.lemmas.Iterator.{YieldsList-from_range}
use Rattle.std.proofs.lemmas.Iterator.Search.{all_from_yields_List}
use Rattle.cells.specs.columns.Lent.{read_columns}
use Rattle.table_spec.specs.Columns.{cells_at}
use Rattle.tables.proofs.text_ranges.Ranges.{all-from}
use Rattle.tables.specs.text_ranges.Left.{text_fits}
use Rattle.tables.proofs.text_ranges.later_texts_pass.Goals as goal

pub returns : goal.returns
returns c =
    let lent = c.args.lent.now in
    let table = read_columns c.args.table.now in
    let left = c.args.count - c.args.first in
    all_from_yields_List (λ i. text_fits lent (cells_at table i)) _ _ c.all.result c.all.ensures.ran (YieldsList-from_range c.args.first c.args.count left refl refl) (λ x b q k. search (rules, tests))
    ∙ all-from lent table c.args.first left ∙ c.requires.1.rest
