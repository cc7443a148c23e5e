-- `reached` meets its contract: after k rounds the ways go through the first k elements.
use native.Mathlib.Numerals.{add-one}
use Rattle.names.specs.closures.Rounds.{reachability-first, reachability-next, round-none-past}
use Rattle.names.proofs.relations.reached.Goals as goal

pub loop-k-init : goal.loop-k-init
loop-k-init c = λ past. (reachability-first c.args.«holds».now, past)

pub loop-k-preserved : goal.loop-k-preserved
loop-k-preserved c = λ past.
    let at = c.loop-k in
    let was = at.invariant past in
    let step = c.round.ensures was.1 in
    (rw add-one (reachability-next c.args.«holds».now at.k at.images c.round.new.images was.0 step), round-none-past at.images at.k _ c.round.new.images was.1 step)
