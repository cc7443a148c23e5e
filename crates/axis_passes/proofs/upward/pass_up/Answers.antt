use Rattle.std.proofs.Common.{◌∙◌, arith, length-set}
use Rattle.axis_passes.specs.upward.Upward.{raised-begun, raised-next}
use Rattle.selection_laws.specs.marks.Passes.{backward-all}
use Rattle.axis_passes.proofs.upward.pass_up.Goals as goal

pub loop-r-init : goal.loop-r-init
loop-r-init g c = record { pass = c.requires.pass; within = omega (arith, c.requires.pass.room); above = λ a h. raised-begun a h c.requires.pass }

pub loop-r-preserved : goal.loop-r-preserved
loop-r-preserved g c =
    let at = c.loop-r in
    let i = at.invariant in
    record {
      pass = record {
        before = i.pass.before;
        filled = i.pass.filled;
        marked = i.pass.marked;
        size = i.pass.size;
        room = length-set _ _ _ ∙ i.pass.room;
      };
      within = omega (arith, i.within);
      above = λ a h. raised-next a h at.r at.out _ (i.above a h) (omega arith) c.rule-mark.ensures;
    }

pub returns : goal.returns
returns g c = λ a h. backward-all a _ _ _ _ (c.loop-r.invariant.above a h) (omega arith)
