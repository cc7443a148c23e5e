-- `first_foreign` meets its contract.
use Rattle.std.proofs.Common.{sym, ◌∙◌, rules, tests}
use Rattle.std.proofs.lemmas.Iterator.Search.{position_from_yields_List}
use Rattle.std.proofs.lemmas.Iterator.{YieldsList-from_slice}
use Rattle.text_spec.specs.Bytes.{is_foreign}
use Rattle.text.specs.lookup.Positions.{first-place, no-place}
use Rattle.text.proofs.first_foreign.Goals as goal

pub returns-then-not-any_foreign : goal.returns-then-not-any_foreign
returns-then-not-any_foreign c = no-place is_foreign c.args.text.now (sym c.any_foreign.ensures ∙ c.if-not-any_foreign.true)

pub returns : goal.returns
returns c =
    first-place is_foreign c.args.text.now (position_from_yields_List is_foreign _ _ _ c.position.ensures.ran (YieldsList-from_slice c.args.text.now cc) (λ x b q k. search (rules, tests)))
