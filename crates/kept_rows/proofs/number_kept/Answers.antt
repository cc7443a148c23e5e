use Rattle.std.proofs.Common.{sym, ◌∙◌, arith, eqb-true}
use Rattle.std.proofs.lemmas.Bool.{eqb-false}
use Rattle.kept_rows.specs.Kept.{table-marks, kept_table, pass-first}
use Rattle.kept_rows.specs.Positions.{numbered-none, numbering-begun, numbering-again, numbering-all, kept-size, numbering-few, numbered-same}
use Rattle.kept_rows.proofs.number_kept.Goals as goal

pub returns-then-is_empty : goal.returns-then-is_empty
returns-then-is_empty c = numbered-none _ _ _ _ c.requires (eqb-true _ _ (sym c.is_empty.ensures ∙ c.if-is_empty.true))

pub loop-r-init : goal.loop-r-init
loop-r-init c =
    let h = c.requires in
    let e = table-marks _ _ c.code_marks-table.ensures in
    let some = eqb-false _ _ (sym c.is_empty.ensures ∙ c.if-is_empty.false) in
    rw c.from-n.ensures (omega arith, pass-first _ _ _ _ h, e, numbering-begun _ _ _ _ h _ e (omega arith))

pub next_position-x-requires : goal.next_position-x-requires
next_position-x-requires c =
    let at = c.loop-r in
    numbering-few _ _ _ _ at.invariant.1 at.r at.n at.positions at.invariant.3 (omega arith)

pub loop-r-preserved : goal.loop-r-preserved
loop-r-preserved c =
    let at = c.loop-r in
    (omega arith, at.invariant.1, at.invariant.2, numbering-again _ _ _ _ at.invariant.1 _ at.invariant.2 at.r at.n at.positions at.invariant.0 (omega arith) at.invariant.3 _ _ c.next_position-x.ensures c.max-n.ensures)

pub returns : goal.returns
returns c =
    let at = c.loop-r in
    let made = c.code_marks-table.ensures in
    numbered-same _ _ _ _ (kept_table _ _ _ _ made at.invariant.1.columns) (numbering-all _ _ (kept-size _ _ _ _ at.invariant.1) at.r at.n at.positions at.invariant.3 (omega arith))
