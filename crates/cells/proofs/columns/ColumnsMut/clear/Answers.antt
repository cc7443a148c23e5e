use Rattle.cells.specs.lent.Columns.{columns-cleared}
use Rattle.cells.proofs.columns.ColumnsMut.clear.Goals as goal

pub returns : goal.returns
returns c = record { same = c.clear_from.ensures.same; cells = columns-cleared _ _ c.clear_from.ensures.cleared }
