-- `accepts_text` meets its contract: judging the text does not refuse it.
use Rattle.bundle.proofs.record_tests.Records.{text-judged}
use Rattle.bundle.proofs.record_tests.accepts_text.Goals as goal

pub returns : goal.returns
returns c = text-judged _ _ c.judge_under.ensures c.is_ok.ensures.value
