-- `judge` meets its contract: 4, then 5, then the names.
use Rattle.std.proofs.Common.{refl}
use Rattle.schema_reader.specs.judging_laws.Outcomes.{refused-into, judge-departs, judge-over, judge-spelling, judge-into}
use Rattle.schema_reader.proofs.declaration_judging.judge.Goals as goal

pub returns-in-Err : goal.returns-in-Err
returns-in-Err c = rw c.at.ensures (refused-into (judge-departs c.in-Err.ensures c.requires.0 refl))

pub returns-in-Some : goal.returns-in-Some
returns-in-Some c = rw c.at-in-Some.ensures (refused-into (judge-over c.in-Ok.ensures refl c.requires.0 c.in-Some.is))

pub judge_names-requires : goal.judge_names-requires
judge_names-requires c = judge-spelling c.in-Ok.ensures refl c.in-None.is c.requires.0

pub returns-in-None : goal.returns-in-None
returns-in-None c = judge-into c.in-Ok.ensures refl c.in-None.is c.requires.1 c.judge_names.ensures
