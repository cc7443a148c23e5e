-- `resolve` meets its contract: the first i names are declared and resolved.
use Rattle.std.proofs.Common.{arith}
use Rattle.std.proofs.lemmas.List.{set-get_or}
use Rattle.schema_reader.specs.declared_names.Resolving.{resolved-first, resolved-stops, resolved-next, resolved-all}
use Rattle.schema_reader.proofs.declared_names.resolve.Goals as goal

pub loop-place-init : goal.loop-place-init
loop-place-init c = resolved-first c.args.s.now c.args.names.now c.args.uses.now

pub returns-in-None : goal.returns-in-None
returns-in-None c =
    let at = c.loop-place in
    let args = c.args in
    rw set-get_or (resolved-stops args.s.now args.names.now args.uses.now at.place-index at.uses (let l = at.invariant.long in omega arith) at.invariant c.in-None.ensures)

pub loop-place-preserved : goal.loop-place-preserved
loop-place-preserved c =
    let at = c.loop-place in
    let args = c.args in
    resolved-next args.s.now args.names.now args.uses.now at.place-index at.uses (let l = at.invariant.long in omega arith) at.invariant c.in-Some.ensures

pub returns : goal.returns
returns c =
    let at = c.loop-place in
    let args = c.args in
    resolved-all args.s.now args.names.now args.uses.now at.place-index at.uses (let l = at.invariant.long in omega arith) at.invariant
