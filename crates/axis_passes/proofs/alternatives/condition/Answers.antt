use Rattle.std.proofs.Common.{refl, arith}
use Rattle.axis_passes.specs.alternatives.Alternatives.{alternatives-begun, size_fits, size-some, alternatives-pass, alternatives-next, alternatives-all}
use Rattle.axis_passes.proofs.alternatives.condition.Goals as goal

pub loop-k-init : goal.loop-k-init
loop-k-init c =
    alternatives-begun _ _ _ _ _ c.requires _ (c.fill.ensures.after (λ y e. e))
    (record { held = refl; steps = refl; next = refl; held-size = c.fill.ensures.len; steps-size = refl; next-size = refl })

pub first_size-size-requires : goal.first_size-size-requires
first_size-size-requires c = omega (arith, c.requires.inside)

pub overflow_add-k : goal.overflow_add-k
overflow_add-k c =
    let at = c.loop-k in
    omega (arith, c.requires.inside, size_fits _ _ _ _ _ c.requires at.k at.scratch at.invariant _ c.first_size-size.ensures)

pub overflow_add-k-in-loop-k : goal.overflow_add-k-in-loop-k
overflow_add-k-in-loop-k c =
    let at = c.loop-k in
    omega (arith, c.requires.inside, size_fits _ _ _ _ _ c.requires at.k at.scratch at.invariant _ c.first_size-size.ensures)

pub alternative-requires : goal.alternative-requires
alternative-requires c =
    let at = c.loop-k in
    alternatives-pass _ _ _ _ _ c.requires at.k at.scratch at.invariant _ c.first_size-size.ensures

pub loop-k-smaller : goal.loop-k-smaller
loop-k-smaller c =
    let at = c.loop-k in
    omega (arith, size-some _ _ _ _ _ c.requires at.k at.scratch at.invariant _ c.first_size-size.ensures (omega arith))

pub loop-k-preserved : goal.loop-k-preserved
loop-k-preserved c =
    let at = c.loop-k in
    alternatives-next _ _ _ _ _ c.requires at.k at.scratch at.invariant _ c.first_size-size.ensures _ _ (omega arith) (omega arith)
    c.alternative.ensures.held c.alternative.ensures.kept

pub returns-clause-held : goal.returns-clause-held
returns-clause-held c =
    let at = c.loop-k in
    alternatives-all _ _ _ _ _ c.requires at.k at.scratch at.invariant (omega arith)
