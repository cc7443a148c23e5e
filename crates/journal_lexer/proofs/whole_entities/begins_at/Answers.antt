-- `begins_at` meets its contract: so many bytes of the word stand there.
use Rattle.std.proofs.Common.{arith}
use Rattle.journal_lexer.specs.whole_entities.Entities.{begins-none, begins-more, begins-all, begins-short, begins-differs}
use Rattle.journal_lexer.proofs.whole_entities.begins_at.Goals as goal
use Rattle.journal_lexer.proofs.whole_entities.begins_at.Goals.{then-text-i-via-then-text-i, then-text-i-via-else-text-i+then-text-i-2}

pub loop-k-init : goal.loop-k-init
loop-k-init c = begins-none c.args.text.now c.args.i c.args.word.now

pub loop-k-preserved : goal.loop-k-preserved
loop-k-preserved c =
    begins-more c.args.text.now c.args.i c.args.word.now c.loop-k.k c.loop-k-test.true (omega (arith, c.if-text-i.false)) c.if-text-i-2.false c.loop-k.invariant

pub returns-then-text-i : goal.returns-then-text-i
returns-then-text-i c =
    elim c.then-text-i.branch [
      | then-text-i-via-then-text-i w ↦ begins-short c.args.text.now c.args.i c.args.word.now c.loop-k.k c.loop-k-test.true w.if-text-i.true
      | then-text-i-via-else-text-i+then-text-i-2 w ↦ begins-differs c.args.text.now c.args.i c.args.word.now c.loop-k.k c.loop-k-test.true w.if-text-i-2.true
    ]

pub returns : goal.returns
returns c = begins-all c.args.text.now c.args.i c.args.word.now c.loop-k.k (omega (arith, c.loop-k-test.false)) c.loop-k.invariant
