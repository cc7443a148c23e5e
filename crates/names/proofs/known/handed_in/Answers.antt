-- `names::known::handed_in` meets its contract.
use mathlib.Core.Path.{◌∙◌}
use Rattle.names.specs.Encoding.{handed-in}
use Rattle.names.specs.SetLaws.{common-known, common-set_in}
use Rattle.names.proofs.known.handed_in.Goals as goal

pub returns : goal.returns
returns c = λ s small named.
    let start = c.args in
    let set = c.from_word in (
      common-set_in s start.all set.result c.bitand.result named c.bitand.ensures ∙ handed-in s small start.word set.result set.ensures,
      common-known s start.all set.result c.bitand.result named c.bitand.ensures,
    )
