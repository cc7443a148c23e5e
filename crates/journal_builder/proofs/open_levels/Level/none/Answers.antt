use Rattle.std.proofs.Common.{ap}
use Rattle.journal_builder.specs.open_levels.Levels.{no_level}
use Rattle.text.specs.declared.name_words.Name.{Name}
use Rattle.text.specs.name_words.Words.{words_of, with_bytes}
use Rattle.journal_builder.proofs.open_levels.Level.none.Goals as goal

pub returns : goal.returns
unfolding words_of with_bytes
returns c = ap (λ (n : Name). record no_level { name = n }) c.empty.ensures
