use Rattle.std.proofs.Common.{◌≡◌, ◌-◌, sym, ◌∙◌, arith}
use Rattle.std.proofs.lemmas.Grind.{common_steps}
use Rattle.axis_passes.specs.conditions.Conditions.{condition-columns, condition-kept, all-kept, none_kept}
use Rattle.axis_passes.proofs.conditions.keep.Goals as goal
use Rattle.axis_passes.proofs.conditions.keep.Goals.{else-not-is_empty-via-then-not-is_empty+else-any_marked, else-not-is_empty-via-else-not-is_empty}

pub condition-requires : goal.condition-requires
condition-requires c = c.requires.condition

pub intersect-requires : goal.intersect-requires
intersect-requires c = condition-columns _ _ _ _ _ _ c.requires _ c.condition.ensures.held

pub returns-then-any_marked-clause-marks : goal.returns-then-any_marked-clause-marks
returns-then-any_marked-clause-marks c =
    condition-kept _ _ _ _ _ _ c.requires _ _ (λ e. grind (arith, common_steps, e)) c.condition.ensures.held c.intersect.ensures

pub returns-else-not-is_empty-clause-marks : goal.returns-else-not-is_empty-clause-marks
returns-else-not-is_empty-clause-marks c =
    elim c.else-not-is_empty.branch [
      | else-not-is_empty-via-then-not-is_empty+else-any_marked w ↦ none_kept _ c.args.paths.now.steps _ _ _ _ c.requires (sym w.any_marked.ensures ∙ w.if-any_marked.false)
      | else-not-is_empty-via-else-not-is_empty w ↦ let e : c.args.steps.end - c.args.steps.start ≡ 0 = grind (arith, common_steps) in all-kept _ c.args.paths.now.steps _ _ _ _ c.requires e
    ]
