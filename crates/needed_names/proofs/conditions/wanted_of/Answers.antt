-- `wanted_of` meets its contract.
use Rattle.std.proofs.Common.{Bool, ◌&&◌, sym, ap, ◌∙◌}
use Rattle.compiled_paths.specs.Steps.{alternatives_in}
use Rattle.inference.specs.back_steps.Laws.{within-member}
use Rattle.inference.specs.type_steps.Envs.{env_in}
use Rattle.inference_spec.specs.Types.{Env}
use Rattle.names.specs.codes.Codes.{name_of_code}
use Rattle.needed_names.specs.alternatives.Alternatives.{need_of_all}
use Rattle.needed_names.specs.asked.Asked.{asked_alternatives}
use Rattle.needed_names.specs.conditions.Conditions.{wants_in}
use Rattle.schema_spec.specs.Names.{has}
use Rattle.text_laws.specs.Tests.{passed}
use Rattle.needed_names.proofs.conditions.wanted_of.Goals as goal

pub returns-then-has : goal.returns-then-has
returns-then-has c = λ s k only m i.
    let qs = alternatives_in c.args.asked.now.paths.now.steps c.args.n c.args.i in
    let a = name_of_code c.args.c in
    let there = sym c.has.ensures ∙ c.if-has.true in
    within-member s c.need_of_all.result (need_of_all s (env_in s c.from_name.result) qs) (c.need_of_all.ensures s k.relations) m i
    ∙ ap (λ (e : Env). has m (need_of_all s e qs)) (c.from_name.ensures s k.relations (only a (passed there)))
    ∙ ap (λ (b : Bool). b && has m (wants_in s c.args.k (asked_alternatives c.args.asked.now c.args.n c.args.i) a)) (sym there)

pub returns-else-has : goal.returns-else-has
returns-else-has c = λ s k only m i.
    c.empty.ensures m
    ∙ ap (λ (b : Bool). b && has m (wants_in s c.args.k (asked_alternatives c.args.asked.now c.args.n c.args.i) (name_of_code c.args.c))) (sym c.if-has.false ∙ c.has.ensures)
