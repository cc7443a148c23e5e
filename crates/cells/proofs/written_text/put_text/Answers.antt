use Rattle.std.proofs.Common.{arith, refl}
use Rattle.cells.specs.written_text.Written.{Copying, copying-next, copying-all}
use Rattle.cells.proofs.written_text.put_text.Goals as goal

pub loop-i-init : goal.loop-i-init
loop-i-init c = record { within = omega arith; long = refl; copied = refl }

pub loop-i-preserved : goal.loop-i-preserved
loop-i-preserved c =
    let at = c.loop-i in
    copying-next _ _ _ at.i at.out at.invariant (omega arith)

pub returns : goal.returns
returns c =
    let at = c.loop-i in
    let all = copying-all _ _ _ at.i at.out at.invariant (omega arith) in
    record { after = refl; cells = all.cells }
