use Rattle.std.proofs.Common.{refl, arith}
use Rattle.axis_passes.specs.alternative_steps.Alternatives.{steps-begun, steps-pass, steps_next, steps_all, unite-pass}
use Rattle.axis_passes.specs.scratch.Scratch.{kept-kept}
use Rattle.axis_passes.proofs.alternative_steps.alternative.Goals as goal

pub loop-k-init : goal.loop-k-init
loop-k-init c =
    steps-begun _ _ _ _ _ c.requires _ (c.fill.ensures.after (λ y e. e)) refl
    (record { held = refl; steps = refl; next = refl; held-size = refl; steps-size = c.fill.ensures.len; next-size = refl })

pub step_back-requires : goal.step_back-requires
step_back-requires c = steps-pass _ _ _ _ _ c.requires c.loop-k.k c.loop-k.scratch c.loop-k.invariant

pub loop-k-preserved : goal.loop-k-preserved
loop-k-preserved c =
    steps_next _ _ _ _ _ c.requires c.loop-k.k c.loop-k.scratch c.loop-k.invariant _ (omega arith) c.step_back.ensures refl
    (record { held = refl; steps = refl; next = refl; held-size = refl; steps-size = omega arith; next-size = omega arith })

pub unite-requires : goal.unite-requires
unite-requires c = unite-pass _ _ _ _ _ c.requires c.loop-k.k c.loop-k.scratch c.loop-k.invariant

pub returns-clause-held : goal.returns-clause-held
returns-clause-held c = steps_all _ _ _ _ _ c.requires c.loop-k.k c.loop-k.scratch c.loop-k.invariant _ (omega arith) c.unite.ensures

pub returns-clause-kept : goal.returns-clause-kept
returns-clause-kept c =
    kept-kept c.loop-k.invariant.kept (record { held = refl; steps = refl; next = refl; held-size = omega arith; steps-size = refl; next-size = refl })
