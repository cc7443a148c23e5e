-- `read_bundle` meets its contract: the text on acceptance, nothing on refusal.
use Rattle.bundle.proofs.reader.Records.{read-ok, read-err}
use Rattle.bundle.proofs.reader.read_bundle.Goals as goal

pub returns-in-Ok : goal.returns-in-Ok
returns-in-Ok c = read-ok c.args.schema.bytes c.args.schema.len c.args.text.now c.judge_with-judgement.ensures c.in-Ok.is c.recorded-bundle.ensures

pub returns-in-Err : goal.returns-in-Err
returns-in-Err c = read-err c.args.schema.bytes c.args.schema.len c.args.text.now c.judge_with-judgement.ensures c.in-Err.is c.empty-bundle.ensures
