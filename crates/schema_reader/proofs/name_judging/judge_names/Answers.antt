-- `judge_names` meets its contract: 6, then 7, then acceptance.
use Rattle.std.proofs.Common.{refl}
use Rattle.schema_reader.specs.judging_laws.Outcomes.{refused-names, read_twice, read-undeclared, read-accepted}
use Rattle.schema_reader.proofs.name_judging.judge_names.Goals as goal

pub returns-in-Some : goal.returns-in-Some
returns-in-Some c = rw c.at.ensures (refused-names (read_twice c.requires c.in-Some.ensures) refl)

pub returns-in-Ok : goal.returns-in-Ok
returns-in-Ok c = read-accepted c.requires c.in_default.ensures c.in-Ok.ensures

pub returns-in-Err : goal.returns-in-Err
returns-in-Err c =
    rw c.at-in-Err.ensures (refused-names (read-undeclared c.requires c.in_default.ensures c.in-Err.ensures.says) c.in-Err.ensures.long)
