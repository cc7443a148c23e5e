use Rattle.std.proofs.Common.{refl, sym, ap, ◌∙◌, arith}
use Rattle.journal_builder.specs.declared.build_state.Build.{Build}
use Rattle.journal_builder.specs.laws.Ends.{end-outside, end-other}
use Rattle.journal_builder.specs.laws.StateLaws.{built-as, breaks-built}
use Rattle.text_spec.specs.Refusals.{bad_nesting}
use Rattle.journal_builder.proofs.end_tags.on_end.Goals as goal

pub returns-then-m-eq0 : goal.returns-then-m-eq0
returns-then-m-eq0 c =
    let g = c.args in (
      omega (arith, ap (λ (x : Build). x.depth) c.broken.ensures),
      ap (λ (x : Build). x.count) c.broken.ensures,
      λ s b n m p u w.
          built-as c.broken.ensures (end-outside s b g.levels.now g.m w n g.at c.if-m-eq0.true)
          (breaks-built s b g.levels.now g.m u w bad_nesting g.at (omega arith) (omega (arith, c.ranges))),
    )

pub returns-then-is_own_name : goal.returns-then-is_own_name
returns-then-is_own_name c =
    let g = c.args in (
      c.close.ensures.0,
      c.close.ensures.1,
      λ s b n m p u w. c.close.ensures.2 s b n g.at m (sym (c.is_own_name.ensures s b g.m n refl c.if-m-eq0.false p w) ∙ c.if-is_own_name.true) u w,
    )

pub returns : goal.returns
returns c =
    let g = c.args in (
      omega (arith, ap (λ (x : Build). x.depth) c.broken-2.ensures),
      ap (λ (x : Build). x.count) c.broken-2.ensures,
      λ s b n m p u w.
          built-as c.broken-2.ensures
          (end-other s b g.levels.now g.m w n g.at (sym (c.is_own_name.ensures s b g.m n refl c.if-m-eq0.false p w) ∙ c.if-is_own_name.false))
          (breaks-built s b g.levels.now g.m u w bad_nesting g.at (omega arith) (omega (arith, c.ranges))),
    )
