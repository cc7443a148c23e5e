use Rattle.std.proofs.Common.{◌<◌, get_or, arith, ◌∙◌, length-set, get_or-set_same, get_or-set_other, below_more}
use Rattle.axis_passes.proofs.downward.pass_down.Goals as goal

pub loop-r-preserved : goal.loop-r-preserved
loop-r-preserved g c =
    let at = c.loop-r in
    let i = at.invariant in
    let before = c.requires.pass.before in
    record {
      size = length-set _ _ _ ∙ i.size;
      root = get_or-set_other at.out at.r 0 c.rule.result 0 (λ e. omega arith) ∙ i.root;
      rows = below_more _ at.r
          (λ k b some.
          let up : get_or c.args.parents.now k 0 < k = before k some (omega (arith, i.size)) in
          rw (get_or-set_other at.out at.r k c.rule.result 0 (λ e. omega arith), get_or-set_other at.out at.r (get_or c.args.parents.now k 0) c.rule.result 0 (λ e. omega arith))
          (i.rows k b some))
          (λ some.
          let up : get_or c.args.parents.now at.r 0 < at.r = before at.r some (omega (arith, i.size)) in
          rw (get_or-set_same at.out at.r c.rule.result 0 (omega arith), get_or-set_other at.out at.r (get_or c.args.parents.now at.r 0) c.rule.result 0 (λ e. omega arith))
          c.rule.ensures);
    }
