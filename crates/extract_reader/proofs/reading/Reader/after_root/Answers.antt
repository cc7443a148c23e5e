-- `after_root` meets its contract: levels of zeros.
use Rattle.std.proofs.Common.{refl, arith}
use Rattle.extract_reader.specs.reading.Readers.{filled-widths}
use Rattle.extract_reader.proofs.reading.Reader.after_root.Goals as goal

pub returns-clause-widths : goal.returns-clause-widths
returns-clause-widths c = filled-widths _ _ refl (omega arith) (omega arith)
