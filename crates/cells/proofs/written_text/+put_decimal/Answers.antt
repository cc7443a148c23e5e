-- `put_decimal` meets its contract: the higher digits, by the recursion, and then the last one.
use Rattle.std.proofs.Common.{arith}
use Rattle.cells.proofs.written_text.+put_decimal.Goals as goal
use Rattle.cells.specs.written_text.Written.{more-written}

pub returns : goal.returns
returns t c = more-written _ _ _ (omega arith) c.if-n-lt10.false _ _ c.put_decimal-end.ensures
