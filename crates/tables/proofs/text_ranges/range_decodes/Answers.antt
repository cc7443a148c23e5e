-- `range_decodes` meets its contract: by the lengths, and by the size that the lexer tells.
use Rattle.std.proofs.Common.{rules}
use Rattle.tables.proofs.text_ranges.Decoding.{range-decoded}
use Rattle.tables.proofs.text_ranges.range_decodes.Goals as goal

pub returns-then-decoded-size : goal.returns-then-decoded-size
returns-then-decoded-size c = rw range-decoded (search rules)

pub returns-then-decoded-ne0 : goal.returns-then-decoded-ne0
returns-then-decoded-ne0 c = rw range-decoded (search rules)

pub returns-else-decoded-ne0 : goal.returns-else-decoded-ne0
returns-else-decoded-ne0 c = rw range-decoded (search rules)
