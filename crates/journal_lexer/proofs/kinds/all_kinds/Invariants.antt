-- `all_kinds` meets its contract: a kind more at each turn.
use Rattle.std.proofs.Common.{◌≡◌, ℕ, ◌<◌, length, get_or}
use Rattle.journal_lexer.specs.declared.kinds.ByteKind.TheVariants.{Letter}
use Rattle.journal_lexer.specs.kinds.Kinds.{kind_of}
use Rattle.journal_lexer.proofs.kinds.all_kinds.Given as goal

abbrev pub invariant-loop-b : goal.invariant-loop-b
invariant-loop-b l = record { long : length l.kinds ≡ 256; done : (k : ℕ) → k < l.b → get_or l.kinds k Letter ≡ kind_of k }
