use Rattle.std.proofs.Common.{arith, ap, sym, ◌∙◌, length, length-set}
use Rattle.chains.proofs.tags.Loops.{IsSize, sizes-all}
use Rattle.text_laws.specs.Loops.{passed_first, passed-next}
use Rattle.chains.proofs.tags.name_sizes.Goals as goal

pub loop-e-init : goal.loop-e-init
loop-e-init c = (sym c.requires, passed_first _ _ _)

pub loop-e-preserved : goal.loop-e-preserved
loop-e-preserved c =
    let at = c.loop-e in
    (length-set at.sizes at.e _ ∙ at.invariant.0, passed-next (IsSize c.args.text.now c.args.names.now) 0 _ at.e at.sizes _ (omega (arith, at.invariant.0)) at.invariant.1 (ap length c.name_at.ensures.value))

pub returns : goal.returns
returns c =
    let at = c.loop-e in
    sizes-all _ _ _ at.e at.sizes (omega arith) at.invariant.0 at.invariant.1
