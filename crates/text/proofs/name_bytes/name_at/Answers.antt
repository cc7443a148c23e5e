-- `name_at` meets its contract: the bytes that go on as a name, and no more.
use Rattle.std.proofs.Common.{◌≡◌, sym, ap, subst, ◌∙◌, rules, tests, drop, take, ℕ}
use Rattle.std.proofs.lemmas.Iterator.Consumers.{count_from_yields_List}
use Rattle.std.proofs.lemmas.Iterator.Search.{YieldsList-from_take_while}
use Rattle.std.proofs.lemmas.Iterator.{YieldsList-from_slice}
use Rattle.std.proofs.lemmas.List.Folds.{length-prefix_len}
use Rattle.std.specs.List.{prefix_len}
use Rattle.text_spec.specs.Bytes.{continues_name}
use Rattle.text_spec.specs.Scans.{name_in, name_at}
use Rattle.text.specs.name_bytes.Names.{IsName}
use Rattle.text.specs.name_bytes.Naming.{name-prefix, name-again}
use Rattle.text.proofs.name_bytes.name_at.Goals as goal

taken : (c : goal.After-count-len) → take c.count-len.result c.rest_at-rest.result.now ≡ name_at c.args.s.now c.args.p
taken c =
    let rest = c.rest_at-rest.result.now in
    let many : c.count-len.result ≡ prefix_len continues_name rest =
    count_from_yields_List c.take_while.result c.count-len.result c.count-len.ensures.ran
    (YieldsList-from_take_while _ continues_name (YieldsList-from_slice rest cc) c.take_while.ensures.closure c.take_while.ensures.done (λ x b q k. search (rules, tests)))
    ∙ length-prefix_len continues_name rest in
    ap (λ (n : ℕ). take n rest) many ∙ name-prefix rest ∙ ap name_in c.rest_at-rest.ensures

pub returns-clause-value : goal.returns-clause-value
returns-clause-value c = taken c

pub returns-clause-name : goal.returns-clause-name
returns-clause-name c = subst IsName (sym (taken c)) (name-again (drop c.args.p c.args.s.now))
