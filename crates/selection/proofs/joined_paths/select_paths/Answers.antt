use Rattle.std.proofs.Common.{refl, arith}
use Rattle.selection.specs.joined_paths.Joined.{paths-begun, paths-one, one-fits, paths-next, paths-all}
use Rattle.selection.proofs.joined_paths.select_paths.Goals as goal

pub loop-i-init : goal.loop-i-init
loop-i-init c = paths-begun _ _ _ _ _ _ _ _ c.requires (record { held = refl; steps = refl; next = refl; held-size = refl; steps-size = refl; next-size = refl })

pub select_one-m-requires : goal.select_one-m-requires
select_one-m-requires c =
    let at = c.loop-i in
    paths-one _ _ _ _ _ _ _ _ c.requires at.i at.n at.items at.counts at.marks at.scratch at.invariant (omega arith)

pub overflow_sub-m : goal.overflow_sub-m
overflow_sub-m c = omega (arith, c.select_one-m.ensures.items.count)

pub overflow_cast-m : goal.overflow_cast-m
overflow_cast-m c =
    let at = c.loop-i in
    omega (arith, one-fits _ _ _ _ _ _ _ _ c.requires at.i at.n at.items at.counts at.marks at.scratch at.invariant _ _ c.select_one-m.ensures.items)

pub loop-i-preserved : goal.loop-i-preserved
loop-i-preserved c =
    let at = c.loop-i in
    paths-next _ _ _ _ _ _ _ _ c.requires at.i at.n at.items at.counts at.marks at.scratch at.invariant _ _ c.select_one-m.ensures.items _ _ _ (omega arith)
    c.put.ensures (omega arith) c.select_one-m.ensures.kept

pub returns-clause-joined : goal.returns-clause-joined
returns-clause-joined c =
    let at = c.loop-i in
    paths-all _ _ _ _ _ _ _ _ c.requires at.i at.n at.items at.counts at.marks at.scratch at.invariant (omega arith) _ _
    c.fill_from.ensures c.fill_from-2.ensures
