-- `index_of` meets its contract.
use Rattle.std.proofs.Common.{rules, tests}
use Rattle.std.proofs.lemmas.Iterator.Search.{position_from_yields_List}
use Rattle.std.proofs.lemmas.Iterator.{YieldsList-from_slice}
use Rattle.text_spec.specs.Lists.{same_bytes}
use Rattle.text_spec.specs.Scans.{name_at}
use Rattle.text.specs.lookup.Positions.{index-found}
use Rattle.text.proofs.lookup.index_of.Goals as goal

pub returns : goal.returns
returns c =
    let n = c.args.name.now in
    let name = name_at c.args.s.now in
    index-found n name c.args.names.now
    (position_from_yields_List (λ p. same_bytes n (name p)) _ _ _ c.position.ensures.ran (YieldsList-from_slice c.args.names.now cc) (λ x b q k. search (rules, tests)))
