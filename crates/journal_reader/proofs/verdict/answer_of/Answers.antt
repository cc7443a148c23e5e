use Rattle.std.proofs.Common.{Some, None}
use Rattle.journal_reader.specs.verdict.Verdicts.{told}
use Rattle.journal_reader.proofs.verdict.answer_of.Goals as goal

pub returns-in-Some : goal.returns-in-Some
returns-in-Some c rows o k h = told c.args.key c.args.rows (Some c.in-Some.first) c.in-Some.ensures.some c.in-Some.ensures.none rows o k h

pub returns-in-None : goal.returns-in-None
returns-in-None c rows o k h = told c.args.key c.args.rows None c.in-None.ensures.some c.in-None.ensures.none rows o k h
