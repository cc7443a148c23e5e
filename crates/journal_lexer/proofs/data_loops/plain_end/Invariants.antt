-- `plain_end` meets its contract: each byte that is passed is plain.
use Rattle.journal_lexer.specs.data_loops.Characters.{PlainBytes}
use Rattle.journal_lexer.proofs.data_loops.plain_end.Given as goal

abbrev pub invariant-loop-at : goal.invariant-loop-at
invariant-loop-at l = PlainBytes l.t l.kinds l.from l.at
