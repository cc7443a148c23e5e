use Rattle.std.proofs.Common.{sym, ◌∙◌, arith, eqb-true}
use Rattle.std.proofs.lemmas.Bool.{eqb-false}
use Rattle.kept_rows.specs.Kept.{table-marks, kept_table, kept-none, pass-first, kept-begun, kept_next, kept-all}
use Rattle.kept_rows.proofs.mark_kept.Goals as goal

pub returns-then-is_empty : goal.returns-then-is_empty
returns-then-is_empty c = kept-none _ _ _ _ c.requires (eqb-true _ _ (sym c.is_empty.ensures ∙ c.if-is_empty.true))

pub loop-r-init : goal.loop-r-init
loop-r-init c =
    let h = c.requires in
    let e = table-marks _ _ c.code_marks-table.ensures in
    let some = eqb-false _ _ (sym c.is_empty.ensures ∙ c.if-is_empty.false) in
    (omega arith, pass-first _ _ _ _ h, e, kept-begun _ _ _ _ h _ e (omega arith))

pub loop-r-preserved : goal.loop-r-preserved
loop-r-preserved c =
    let at = c.loop-r in
    (omega arith, at.invariant.1, at.invariant.2, kept_next _ _ _ _ at.invariant.1 _ at.invariant.2 at.r at.kept at.invariant.0 (omega arith) at.invariant.3)

pub returns : goal.returns
returns c =
    let at = c.loop-r in
    let made = c.code_marks-table.ensures in
    kept-all _ _ _ _ at.invariant.1 _ at.invariant.2 at.r at.kept at.invariant.3 (omega arith) ∙ kept_table _ _ _ _ made at.invariant.1.columns
