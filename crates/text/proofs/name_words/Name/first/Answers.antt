-- `Name::first` meets its contract.
use Rattle.std.proofs.Common.{rules}
use Rattle.text.specs.name_words.Words.{words_of, with_bytes}
use Rattle.text.proofs.name_words.Name.first.Goals as goal

pub returns : goal.returns
unfolding words_of with_bytes
returns c = search rules
