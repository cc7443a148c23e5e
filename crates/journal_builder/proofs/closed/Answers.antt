use Rattle.std.proofs.Common.{refl, sym, ◌∙◌, ◌≡◌, arith, leb-true}
use Rattle.journal_builder.specs.Events.{judged-unbroken, empty-closed, empty-broken}
use Rattle.journal_builder.specs.build_state.State.{judged_from}
use Rattle.journal_builder.proofs.closed.Goals as goal

pub returns-then-is_judged : goal.returns-then-is_judged
returns-then-is_judged c =
    let g = c.args in
    let high = leb-true judged_from g.begun.build.fault (sym c.is_judged.ensures ∙ c.if-is_judged.true) in
    let deep : (g.begun.build.depth ≡ 0 → ⊥) = λ z. omega (arith, c.requires.1 high) in (
      omega (arith, c.close.ensures.0, c.requires.0),
      c.close.ensures.1,
      λ s m b d n k schema named w.
          let u = judged-unbroken w.built c.is_judged.ensures c.if-is_judged.true in
          empty-closed s g.levels.now m b d g.begun _ n k w deep u (named u) refl (c.close.ensures.2 s d n k schema (named u) u w.built),
    )

pub returns : goal.returns
returns c =
    let g = c.args in (
      c.requires.0,
      refl,
      λ s m b d n k schema named w. empty-broken s g.levels.now m b d g.begun g.begun n k w (w.built.judged ∙ sym c.is_judged.ensures ∙ c.if-is_judged.false),
    )
