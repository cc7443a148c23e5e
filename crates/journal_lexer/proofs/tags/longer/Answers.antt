-- `longer` meets its contract.
use Rattle.std.proofs.Common.{arith}
use Rattle.journal_lexer.specs.tags.Names.{fits, over}
use Rattle.journal_lexer.proofs.tags.longer.Goals as goal

pub returns-then-n-ge-MAX_NAME_BYTES : goal.returns-then-n-ge-MAX_NAME_BYTES
returns-then-n-ge-MAX_NAME_BYTES c = λ n h. over (omega (arith, h.counted)) c.goes.ensures

pub returns : goal.returns
returns c = λ n h. fits (omega (arith, h.counted)) c.with.result (c.with.ensures n h.spelt.spelt h.counted) c.names.ensures
