use native.Mathlib.Omega.{arith}
use Rattle.chains.proofs.tags.Loops.{climbing-first, climbing-next, climbing-fits, climbing-all}
use Rattle.chains.proofs.tags.ElementNames.chain_size.Goals as goal

pub loop-r-init : goal.loop-r-init
loop-r-init c = climbing-first _ _ _ _

pub overflow_add-n : goal.overflow_add-n
overflow_add-n c =
    let at = c.loop-r in
    let fits = climbing-fits _ _ _ _ at.n at.r _ _ c.requires at.invariant c.link_size-n.ensures in
    omega arith

pub loop-r-smaller : goal.loop-r-smaller
loop-r-smaller c =
    let at = c.loop-r in
    (climbing-next _ _ _ _ at.n at.r _ c.requires at.invariant c.loop-r-test.true c.link_size-n.ensures).0

pub loop-r-preserved : goal.loop-r-preserved
loop-r-preserved c =
    let at = c.loop-r in
    (climbing-next _ _ _ _ at.n at.r _ c.requires at.invariant c.loop-r-test.true c.link_size-n.ensures).1

pub overflow_add-result : goal.overflow_add-result
overflow_add-result c =
    let at = c.loop-r in
    let fits = climbing-fits _ _ _ _ at.n at.r _ _ c.requires at.invariant c.link_size.ensures in
    omega arith

pub returns : goal.returns
returns c =
    let at = c.loop-r in
    climbing-all _ _ _ _ at.n at.r _ at.invariant c.loop-r-test.false c.link_size.ensures
