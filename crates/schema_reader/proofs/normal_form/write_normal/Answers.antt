-- `write_normal` meets its contract: what was written of the text up to here.
use Rattle.std.proofs.Common.{arith}
use Rattle.schema_reader.proofs.normal_form.Writing.{written_start, written-end, written_next}
use Rattle.schema_reader.proofs.normal_form.write_normal.Goals as goal

pub loop-b-init : goal.loop-b-init
loop-b-init c = written_start c.args.s.now c.args.out.now

pub store-n-requires : goal.store-n-requires
store-n-requires c =
    let a = c.loop-b.invariant.few in
    let b = c.loop-b.invariant.same in
    let e = c.requires in
    let l = c.loop-b-test.true in
    omega arith

pub loop-b-preserved : goal.loop-b-preserved
loop-b-preserved c = written_next c.loop-b.invariant c.loop-b-test.true c.requires c.normal_step-step.ensures c.store-n.ensures

pub returns : goal.returns
returns c = written-end c.loop-b.invariant c.loop-b-test.false
