-- `names::NameSet::from_word` meets its contract.
use native.Mathlib.Omega.{arith}
use Rattle.names.specs.Encoding.{split-means-set_of_word}
use Rattle.names.proofs.NameSet.from_word.Goals as goal

pub returns : goal.returns
returns c = split-means-set_of_word c.args.word (omega arith)
