-- `judge` meets its contract: columns of unequal length, a place that the bundle does not have, or the texts in turn.
use Rattle.host_selecting.specs.Calls.{unequal-call, out-call, texts-call}
use Rattle.host_selecting.proofs.judge.Goals.{then-not-are_equal-via-then-not-are_equal, then-not-are_equal-via-else-not-are_equal+then-not-has_place}
use Rattle.host_selecting.proofs.judge.Goals as goal

pub returns-then-not-are_equal : goal.returns-then-not-are_equal
returns-then-not-are_equal c =
    rw c.of.ensures
    (elim c.then-not-are_equal.branch [
      | then-not-are_equal-via-then-not-are_equal w ↦ unequal-call _ _ _ _ w.if-not-are_equal.ensures
      | then-not-are_equal-via-else-not-are_equal+then-not-has_place w ↦
          out-call _ _ _ _ w.if-not-are_equal.ensures c.judge_texts-texts.result c.judge_texts-texts.ensures w.if-not-has_place.ensures
    ])

pub returns : goal.returns
returns c = texts-call _ _ _ _ c.if-not-are_equal.ensures _ c.judge_texts-texts.ensures c.if-not-has_place.ensures
