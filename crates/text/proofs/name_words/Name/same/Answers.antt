-- `Name::same` meets its contract: no word differs in a bit.
use Rattle.text.specs.name_words.Laws.{words-decide}
use Rattle.text.proofs.name_words.Name.same.Goals as goal

pub returns : goal.returns
returns c =
    let g = c.args in
    words-decide g.self g.other
