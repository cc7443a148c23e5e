-- `put_rows` meets its contract: once all structs are filled, they are the rows of the columns, and zeros past the last cell.
use Rattle.std.proofs.Common.{arith, rules, length, refl, ◌≡◌}
use Rattle.struct_walks.proofs.from_columns.Filled.{Long, filled_more, filled-all}
use Rattle.struct_walks.proofs.from_columns.put_rows.Goals as goal

pub loop-i-init : goal.loop-i-init
loop-i-init c = (refl, λ k l. absurd (omega arith))

pub loop-i-preserved : goal.loop-i-preserved
loop-i-preserved c = rw c.min-k.ensures (filled_more c.args.columns.now _ c.loop-i.i c.loop-i.rows (omega arith) c.loop-i.invariant)

pub returns : goal.returns
returns c =
    let long : Long c.args.columns.now = (search rules, (search rules, (search rules, (search rules, (search rules, search rules))))) in
    let end : c.loop-i.i ≡ length c.args.rows.now = omega arith in
    filled-all c.args.columns.now long c.requires (length c.args.rows.now) c.loop-i.rows (rw end at c.loop-i.invariant)
