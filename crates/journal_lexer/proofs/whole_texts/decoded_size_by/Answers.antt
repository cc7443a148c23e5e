-- `decoded_size_by` meets its contract: the size that is told where reading stops is the definition's.
use Rattle.std.proofs.Common.{◌∙◌}
use Rattle.journal_lexer.specs.whole_texts.Laws.{fresh, come-size}
use Rattle.journal_lexer.proofs.whole_texts.decoded_size_by.Goals as goal

pub read_run-l-requires : goal.read_run-l-requires
read_run-l-requires c = rw c.none-places.ensures (fresh c.requires.0 c.requires.1)

pub returns : goal.returns
returns c = c.run_size.ensures ∙ come-size c.read_run-l.ensures
