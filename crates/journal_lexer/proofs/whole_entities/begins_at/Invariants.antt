-- `begins_at` meets its contract: so many bytes of the word stand there.
use Rattle.std.specs.Prelude.{true, ◌≡◌, take}
use Rattle.journal_lexer.specs.whole_entities.Entities.{begins_at}
use Rattle.journal_lexer.proofs.whole_entities.begins_at.Given as goal

abbrev pub invariant-loop-k : goal.invariant-loop-k
invariant-loop-k l = begins_at l.text l.i (take l.k l.word) ≡ true
