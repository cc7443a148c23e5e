use Rattle.std.proofs.Common.{ap, Err}
use Rattle.journal_reader.specs.event_loop.Judging.{empty-2, over-2, some-bytes, judged-within}
use Rattle.journal_reader.specs.rows.Kept.{same-all}
use Rattle.journal_reader.proofs.event_loop.judge.Goals.{then-is_empty-via-then-is_empty, then-is_empty-via-else-is_empty+then-limit-text}
use Rattle.journal_reader.proofs.event_loop.judge.Goals as goal

pub returns-then-is_empty-clause-judged : goal.returns-then-is_empty-clause-judged
returns-then-is_empty-clause-judged c =
    elim c.then-is_empty.branch [
      | then-is_empty-via-then-is_empty w ↦ empty-2 c.args.text.now _ c.is_empty.ensures w.if-is_empty.true (ap Err c.of.ensures)
      | then-is_empty-via-else-is_empty+then-limit-text w ↦ over-2 c.args.text.now w.if-limit-text.true (ap Err c.of.ensures)
    ]

pub returns-clause-judged : goal.returns-clause-judged
returns-clause-judged c =
    judged-within c.read_journal-read.ensures.read c.in_room.ensures c.room-room.ensures (some-bytes c.args.text.now _ c.is_empty.ensures c.if-is_empty.false) c.if-limit-text.false

pub returns-then-is_empty-clause-same : goal.returns-then-is_empty-clause-same
returns-then-is_empty-clause-same c = same-all _
