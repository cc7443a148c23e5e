-- `read_row` meets its contract: one row more, the end, or no extract.
use Rattle.std.proofs.Common.{Ok, subst}
use Rattle.std.proofs.lemmas.Result.{err_from_is_err_and}
use Rattle.extract_reader.specs.field_rows.Steps.{Steps}
use Rattle.extract_reader.specs.rows.ReadLaws.{read-wrong, read-ended, read-one}
use Rattle.extract_reader.proofs.rows.read_row.Goals as goal

pub returns-in_err-row-clause-read : goal.returns-in_err-row-clause-read
returns-in_err-row-clause-read c =
    let p = err_from_is_err_and c.from_residual.result c.from_residual.ensures.1 in
    rw (p.1, p.2) (read-wrong _ _ c.requires _ _ c.in_err-row.ensures.step)

pub returns-in-Some-clause-read : goal.returns-in-Some-clause-read
returns-in-Some-clause-read c =
    read-one _ _ c.requires _ _ (subst (λ o. Steps c.args.reader.now c.next_row.new.self (Ok o)) c.in-Some.is c.in_ok-row.ensures.step) _ c.put_row.ensures

-- whatever levels are left
pub returns-in-None-clause-read : goal.returns-in-None-clause-read
returns-in-None-clause-read c =
    let a = read-ended c.args.reader.now c.args.columns.now c.requires _ (subst (λ o. Steps c.args.reader.now c.next_row.new.self (Ok o)) c.in-None.is c.in_ok-row.ensures.step) in
    record { source = record { extract = a.source.extract; words = a.source.words }; sizes = a.sizes; after = a.after }
