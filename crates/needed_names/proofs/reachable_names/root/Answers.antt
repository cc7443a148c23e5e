-- `root` meets its contract.
use Rattle.needed_names.specs.reachable_names.Images.{root-list}
use Rattle.needed_names.proofs.reachable_names.root.Goals as goal

pub returns : goal.returns
returns c = λ s full. root-list s c.empty.result c.insert_element.result full c.empty.ensures c.insert_element.ensures
