-- `recorded` meets its contract: the text, and zeros.
use Rattle.std.proofs.Common.{refl}
use Rattle.bundle.proofs.reader.Records.{copied}
use Rattle.bundle.proofs.reader.recorded.Goals as goal

pub returns : goal.returns
returns c = record { bytes = λ h. copied c.args.text.now c.copy_from_slice.new.self c.copy_from_slice.ensures.after h; size = λ h. refl }
