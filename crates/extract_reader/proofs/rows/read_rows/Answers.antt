-- `read_rows` meets its contract: no extract, the empty table, or the rows field by field.
use Rattle.std.proofs.Common.{Some, Ok, subst}
use Rattle.std.proofs.lemmas.Result.{err_from_is_err_and}
use Rattle.extract_reader.specs.fields.Fields.{FirstAs}
use Rattle.extract_reader.specs.rows.Reads.{ReadOn}
use Rattle.extract_reader.specs.rows.Whole.{first-none, first-empty, rows-begun, rows-refused, rows-all}
use Rattle.extract_reader.proofs.rows.read_rows.Goals as goal

pub returns-in_default-clause-read : goal.returns-in_default-clause-read
returns-in_default-clause-read c =
    rw c.of.ensures (first-none _ _ _ (subst (FirstAs c.args.extract.now) c.in_default.is c.begins_with_root.ensures) _)

pub returns-then-not-root-clause-read : goal.returns-then-not-root-clause-read
returns-then-not-root-clause-read c =
    first-empty _ _ _ c.requires.clear (subst (λ b. FirstAs c.args.extract.now (Some b)) c.if-not-root.true c.in-Some.ensures)

pub loop-init : goal.loop-init
loop-init c =
    rows-begun _ _ _ c.requires.equal c.requires.clear (subst (λ b. FirstAs c.args.extract.now (Some b)) c.if-not-root.false c.in-Some.ensures) _ c.after_root-reader.ensures.start

pub returns-in_err-read_row-clause-read : goal.returns-in_err-read_row-clause-read
returns-in_err-read_row-clause-read c =
    let p = err_from_is_err_and c.from_residual.result c.from_residual.ensures.1 in
    rw (p.1, p.2) (rows-refused _ _ _ _ _ c.loop.invariant _ _ c.in_err-read_row.ensures.same _ c.in_err-read_row.ensures.read)

pub returns-clause-read : goal.returns-clause-read
returns-clause-read c =
    rows-all _ _ _ _ _ c.loop.invariant _ _ c.in_ok-read_row.ensures.same
    (subst (λ b. ReadOn c.loop.reader c.loop.columns c.read_row.new.reader c.read_row.new.columns (Ok b)) c.if-branch.false c.in_ok-read_row.ensures.read)
