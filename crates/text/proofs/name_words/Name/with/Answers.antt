-- `Name::with` meets its contract: a new group after each eighth byte.
use Rattle.text.specs.name_words.Laws.{new-group, longer-group}
use Rattle.text.proofs.name_words.Name.with.Goals as goal

pub returns-then-len-eq0 : goal.returns-then-len-eq0
returns-then-len-eq0 c =
    let g = c.args in
    new-group g.self g.len g.x c.from.result c.from.ensures c.if-len-eq0.true

pub returns : goal.returns
returns c =
    let g = c.args in
    longer-group g.self g.len g.x c.from-2.result c.from-2.ensures c.if-len-eq0.false
