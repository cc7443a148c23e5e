use Rattle.std.proofs.Common.{refl, sym, ap, ◌∙◌, arith, None}
use Rattle.journal_builder.specs.build_state.State.{step}
use Rattle.journal_builder.specs.declared.build_state.Build.{Build}
use Rattle.journal_builder.specs.laws.Starts.{start-second, start-deep, start-begins}
use Rattle.journal_builder.specs.laws.StateLaws.{breaks-leaves, leaves-as}
use Rattle.journal_builder.specs.start_tags.Starts.{broken-start}
use Rattle.text_spec.specs.Refusals.{bad_nesting, over_depth}
use Rattle.journal_builder.proofs.start_tags.on_start.Goals as goal

pub returns-then-is_second_root : goal.returns-then-is_second_root
returns-then-is_second_root c =
    let g = c.args in rw c.without_row.ensures (
      broken-start g.m 12 g.at None _ c.requires.0 (omega arith) (omega (arith, c.ranges)) (ap (λ (x : Build). step x None) c.broken.ensures),
      λ s b n k f p u w.
          breaks-leaves s b g.levels.now g.m u w bad_nesting g.at _ _ (omega arith) (omega (arith, c.ranges)) c.broken.ensures
          (start-second s b g.levels.now g.m w n g.at (sym c.is_second_root.ensures ∙ c.if-is_second_root.true)),
    )

pub returns-then-m-ge-MAX_DEPTH : goal.returns-then-m-ge-MAX_DEPTH
returns-then-m-ge-MAX_DEPTH c =
    let g = c.args in rw c.without_row-then-m-ge-MAX_DEPTH.ensures (
      broken-start g.m 13 g.at None _ c.requires.0 (omega arith) (omega (arith, c.ranges)) (ap (λ (x : Build). step x None) c.broken-then-m-ge-MAX_DEPTH.ensures),
      λ s b n k f p u w.
          breaks-leaves s b g.levels.now g.m u w over_depth g.at _ _ (omega arith) (omega (arith, c.ranges)) c.broken-then-m-ge-MAX_DEPTH.ensures
          (start-deep s b g.levels.now g.m w n g.at c.if-m-ge-MAX_DEPTH.true),
    )

pub returns : goal.returns
returns c =
    let g = c.args in (
      record { step = c.begin.ensures.0; deep = λ h. c.begin.ensures.1 },
      λ s b n k f p u w.
          leaves-as refl
          (start-begins s b g.levels.now g.m w n g.at (sym c.is_second_root.ensures ∙ c.if-is_second_root.false) c.if-m-ge-MAX_DEPTH.false)
          (c.begin.ensures.2 s b n k f p u w),
    )
