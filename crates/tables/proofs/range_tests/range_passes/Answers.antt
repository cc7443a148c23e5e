-- `range_passes` meets its contract: the range ends inside the text, and no byte in it is foreign.
use Rattle.std.proofs.Common.{rules}
use Rattle.tables.proofs.range_tests.Ranges.{range-tested}
use Rattle.tables.proofs.range_tests.range_passes.Goals as goal

pub returns-then-size-lent : goal.returns-then-size-lent
returns-then-size-lent c = rw range-tested (search rules)

pub returns-else-size-lent : goal.returns-else-size-lent
returns-else-size-lent c = rw range-tested (search rules)
