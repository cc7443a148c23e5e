use Rattle.std.proofs.Common.{◌∙◌, arith}
use Rattle.selection.specs.first_paths.Firsts.{counting-first, counting-next, counting-all, counted-low, count-test}
use Rattle.selection.proofs.first_paths.selected_count.Goals as goal

pub loop-first-init : goal.loop-first-init
loop-first-init c = counting-first _

pub overflow_add-n : goal.overflow_add-n
overflow_add-n c =
    let at = c.loop-first in
    omega (arith, at.invariant.low, counted-low _ _ (c.from-n.ensures ∙ count-test _))

pub loop-first-preserved : goal.loop-first-preserved
loop-first-preserved c =
    let at = c.loop-first in
    counting-next _ at.first-index at.n at.invariant (omega arith) _ (c.from-n.ensures ∙ count-test _)

pub returns : goal.returns
returns c =
    let at = c.loop-first in
    counting-all _ at.first-index at.n at.invariant (omega arith)
