-- `plain_from` meets its contract: no byte is passed where an `&` stands.
use Rattle.std.proofs.Common.{refl}
use Rattle.journal_lexer.specs.data_loops.Characters.{PlainBytes}
use Rattle.journal_lexer.proofs.data_loops.plain_from.Goals as goal

pub returns-then-t-from-eq38 : goal.returns-then-t-from-eq38
returns-then-t-from-eq38 c = PlainBytes.none refl
