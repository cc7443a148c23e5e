-- `judge` meets its contract: columns of unequal length, or the texts in turn.
use Rattle.host_making.specs.Calls.{unequal-call, texts-call}
use Rattle.host_making.proofs.judge.Goals as goal

pub returns-then-not-are_equal : goal.returns-then-not-are_equal
returns-then-not-are_equal c = rw c.of.ensures (unequal-call _ _ _ c.if-not-are_equal.ensures)

pub returns : goal.returns
returns c = texts-call _ _ _ c.if-not-are_equal.ensures _ c.judge_texts.ensures
