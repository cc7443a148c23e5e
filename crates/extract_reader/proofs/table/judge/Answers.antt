-- `judge` meets its contract: 2, 17, 18, or the rows.
use Rattle.std.proofs.Common.{arith}
use Rattle.std.proofs.lemmas.Result.{err_from_is_err_and}
use Rattle.extract_reader.specs.table.Tables.{is-empty, is-long, judged-empty, judged-none, judged-few, judged-rows}
use Rattle.extract_reader.proofs.table.judge.Goals as goal

pub returns-then-is_empty-clause-judged : goal.returns-then-is_empty-clause-judged
returns-then-is_empty-clause-judged c =
    rw c.of.ensures (judged-empty _ _ _ _ (is-empty _ _ c.is_empty.ensures c.if-is_empty.true))

pub returns-in_err-rows-clause-judged : goal.returns-in_err-rows-clause-judged
returns-in_err-rows-clause-judged c =
    let p = err_from_is_err_and c.from_residual.result c.from_residual.ensures.1 in
    rw (p.1, p.2) (judged-none _ _ _ _ (is-long _ _ c.is_empty.ensures c.if-is_empty.false) _ c.in_err-rows.ensures.read)

pub returns-then-room-rows-clause-judged : goal.returns-then-room-rows-clause-judged
returns-then-room-rows-clause-judged c =
    rw c.of-then-room-rows.ensures
    (judged-few _ _ _ _ (is-long _ _ c.is_empty.ensures c.if-is_empty.false) _ c.in_ok-rows.ensures.read (omega (arith, c.room-room.ensures, c.if-room-rows.true)))

pub returns-clause-judged : goal.returns-clause-judged
returns-clause-judged c =
    judged-rows _ _ _ _ (is-long _ _ c.is_empty.ensures c.if-is_empty.false) _ c.in_ok-rows.ensures.read (omega (arith, c.room-room.ensures, c.if-room-rows.false))
