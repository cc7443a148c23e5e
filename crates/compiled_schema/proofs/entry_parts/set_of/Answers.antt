-- `set_of` meets its contract: the elements passed are in the set, the others are still to come.
use Rattle.compiled_schema.proofs.entry_parts.Holding.{among_first, among_next, among-all}
use Rattle.compiled_schema.proofs.entry_parts.set_of.Goals as goal

pub loop-e-init : goal.loop-e-init
loop-e-init c = among_first c.args.elements.now c.empty-set.result c.empty-set.ensures

pub loop-e-preserved : goal.loop-e-preserved
loop-e-preserved c =
    let at = c.loop-e in
    among_next c.args.elements.now at.e-index at.set c.insert_element-set.result c.loop-e-test.true at.invariant c.insert_element-set.ensures

pub returns : goal.returns
returns c = among-all c.args.elements.now c.loop-e.e-index c.loop-e.set c.loop-e-test.false c.loop-e.invariant
