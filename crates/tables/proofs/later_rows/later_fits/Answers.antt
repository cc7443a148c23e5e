-- `later_fits` meets its contract: the tests in their order.
use Rattle.std.proofs.Common.{arith, rules, le-leb}
use Rattle.table_laws.specs.passes.Passes.{later_fits}
use Rattle.tables.proofs.later_rows.later_fits.Goals as goal

pub returns-then-is_text : goal.returns-then-is_text
unfolding later_fits
returns-then-is_text c =
    let within = le-leb c.args.depth 64 (omega arith) in
    search rules

pub returns-else-is_text : goal.returns-else-is_text
unfolding later_fits
returns-else-is_text c = search rules

pub returns-else-has_bit : goal.returns-else-has_bit
unfolding later_fits
returns-else-has_bit c = search rules
