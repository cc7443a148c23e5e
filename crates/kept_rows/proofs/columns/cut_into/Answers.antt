-- `cut_into` meets its contract: rows numbered, too little room or the rows written, the rest cleared.
use Rattle.std.proofs.Common.{arith, rules}
use Rattle.kept_rows.specs.columns.Cut.{cut-pass, cut_short, cut-done}
use Rattle.kept_rows.proofs.columns.cut_into.Goals as goal

pub number_kept-n-requires : goal.number_kept-n-requires
number_kept-n-requires c =
    record { columns = c.requires.rows.kept; room = c.requires.scratch }

pub returns-then-room-n : goal.returns-then-room-n
returns-then-room-n c =
    record { same = c.clear_from.ensures.same; cut = cut_short _ _ _ c.requires.rows _ _ c.number_kept-n.ensures _ (omega arith) c.clear_from.ensures.cleared }

pub write_rows-requires : goal.write_rows-requires
write_rows-requires c =
    cut-pass _ _ _ c.requires.rows _ _ c.number_kept-n.ensures c.requires.lent (omega arith)

pub returns : goal.returns
returns c =
    record { same = search rules; cut = cut-done _ _ _ c.requires.rows _ _ c.number_kept-n.ensures _ _ c.requires.lent (omega arith) c.write_rows.ensures.rows c.clear_from-2.ensures.cleared }
