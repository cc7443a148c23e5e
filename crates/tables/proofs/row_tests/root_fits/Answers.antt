-- `root_fits` meets its contract: the tests in their order.
use Rattle.std.proofs.Common.{rules}
use Rattle.table_laws.specs.passes.Passes.{root_fits}
use Rattle.tables.proofs.row_tests.root_fits.Goals as goal

pub returns-then-row-eq0-4 : goal.returns-then-row-eq0-4
unfolding root_fits
returns-then-row-eq0-4 c = search rules

pub returns-else-row-eq0-4 : goal.returns-else-row-eq0-4
unfolding root_fits
returns-else-row-eq0-4 c = search rules
