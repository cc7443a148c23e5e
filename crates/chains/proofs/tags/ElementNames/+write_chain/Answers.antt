-- `write_chain` meets its contract: the root's link, or the chain of the row above and the row's link.
use native.Mathlib.Omega.{arith}
use Rattle.chains.proofs.tags.ElementNames.+write_chain.Goals as goal
use Rattle.chains.specs.tags.Chains.{chained-root, chained-later, pass_up, pass-link, pass-root}

pub bounds-table-0 : goal.bounds-table-0
bounds-table-0 t c = omega (arith, c.requires.table.size, c.requires.table.within)

pub put_link-requires : goal.put_link-requires
put_link-requires t c = pass-root _ _ _ _ _ _ _ c.requires c.if-row-eq0.true

pub returns-then-row-eq0 : goal.returns-then-row-eq0
returns-then-row-eq0 t c = chained-root _ _ _ _ _ _ _ c.requires _ _ c.if-row-eq0.true c.put_link.ensures.after c.put_link.ensures.written

pub write_chain-at-requires : goal.write_chain-at-requires
write_chain-at-requires t c =
    let low = c.requires.table.before c.args.row (omega arith) c.requires.table.within in
    (omega (arith, low), pass_up _ _ _ _ _ _ _ c.requires c.if-row-eq0.false)

pub bounds-table-row : goal.bounds-table-row
bounds-table-row t c = omega (arith, c.requires.table.size, c.requires.table.within)

pub put_link-requires-2 : goal.put_link-requires-2
put_link-requires-2 t c = pass-link _ _ _ _ _ _ _ c.requires _ _ c.if-row-eq0.false c.write_chain-at.ensures

pub returns : goal.returns
returns t c =
    chained-later _ _ _ _ _ _ _ c.requires _ _ _ _ c.if-row-eq0.false c.write_chain-at.ensures c.put_link-2.ensures.after c.put_link-2.ensures.written
