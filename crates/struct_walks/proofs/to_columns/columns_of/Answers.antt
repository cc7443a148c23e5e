-- `columns_of` meets its contract: each row is laid in its cell.
use Rattle.std.proofs.Common.{arith, rules}
use Rattle.struct_walks.proofs.to_columns.Laying.{with-row-sized, laid_more, laid-all}
use Rattle.struct_walks.proofs.to_columns.columns_of.Goals as goal

pub loop-i-init : goal.loop-i-init
loop-i-init c =
    (record { numbers = search rules; names = search rules; parents = search rules; starts = search rules; lengths = search rules; decoded = search rules }, λ k l m. absurd (omega arith))

pub loop-i-preserved : goal.loop-i-preserved
loop-i-preserved c =
    let s = c.loop-i in
    (with-row-sized s.columns _ _ s.invariant.0, laid_more c.args.rows.now s.i s.columns s.invariant.0 s.invariant.1 (omega arith))

pub returns : goal.returns
returns c = laid-all c.args.rows.now c.loop-i.columns c.loop-i.i (omega arith) c.loop-i.invariant.1
