-- `wanted_by_some` meets its contract: name by name.
use Rattle.std.proofs.Common.{arith}
use Rattle.names.specs.SetLaws.{common-known, common-set_in}
use Rattle.names.specs.Sets.{set_in}
use Rattle.needed_names.specs.asked.Asked.{asked_alternatives}
use Rattle.needed_names.specs.conditions.Conditions.{wants_in}
use Rattle.needed_names.specs.conditions.Laws.{wanted-none, wanted-one-more, wanted-gather}
use Rattle.needed_names.proofs.conditions.wanted_by_some.Goals as goal

pub loop-c-init : goal.loop-c-init
loop-c-init c = λ s k only m i.
    wanted-none s k.relations.small (wants_in s c.args.k (asked_alternatives c.args.asked.now c.args.n c.args.i)) c.bitand-g.result c.empty-wanted.result c.empty-wanted.ensures m

pub loop-c-preserved : goal.loop-c-preserved
loop-c-preserved c = λ s k only m i.
    let at = c.loop-c in
    wanted-one-more s k.relations.small (wants_in s c.args.k (asked_alternatives c.args.asked.now c.args.n c.args.i)) c.bitand-g.result at.wanted c.wanted_of.result c.bitor_assign.new.self at.c only m (at.invariant s k only m i)
    (c.wanted_of.ensures s k only m i) (c.bitor_assign.ensures.after m)

pub returns : goal.returns
returns c = λ s k.
    let at = c.loop-c in
    let g = c.bitand-g in
    wanted-gather s k.relations.small (wants_in s c.args.k (asked_alternatives c.args.asked.now c.args.n c.args.i)) g.result at.wanted (set_in s c.args.h) at.c (omega arith)
    (common-set_in s c.args.asked.now.all c.args.h g.result k.named g.ensures) (at.invariant s k (common-known s c.args.asked.now.all c.args.h g.result k.named g.ensures))
