-- `keeps` meets its contract.
use Rattle.std.proofs.Common.{Bool, ◌&&◌, sym, ap, ◌∙◌}
use Rattle.compiled_paths.specs.Steps.{alternatives_in}
use Rattle.inference_spec.specs.Types.{Env}
use Rattle.names.specs.codes.Codes.{name_of_code}
use Rattle.needed_names.specs.alternatives.Alternatives.{any_ends_some}
use Rattle.needed_names.specs.asked.Asked.{asked_alternatives}
use Rattle.needed_names.specs.conditions.Conditions.{keeps_in}
use Rattle.needed_names.proofs.conditions.keeps.Goals as goal

pub returns-then-has : goal.returns-then-has
returns-then-has c = λ s k i.
    let q = asked_alternatives c.args.asked.now c.args.n c.args.i in
    c.any_ends_some.ensures s k
    ∙ ap (λ (e : Env). any_ends_some s e (alternatives_in c.args.asked.now.paths.now.steps c.args.n c.args.i)) (c.from_name.ensures s k.relations i)
    ∙ ap (λ (b : Bool). b && keeps_in s c.args.e.context q (name_of_code c.args.c)) (sym c.if-has.true ∙ c.has.ensures)

pub returns-else-has : goal.returns-else-has
returns-else-has c = λ s k i.
    c.if-has.false ∙ ap (λ (b : Bool). b && keeps_in s c.args.e.context (asked_alternatives c.args.asked.now c.args.n c.args.i) (name_of_code c.args.c)) (sym c.if-has.false ∙ c.has.ensures)
