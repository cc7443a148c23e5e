-- `Needs::with_siblings` meets its contract.
use Rattle.inference.specs.type_steps.Envs.{env_in}
use Rattle.inference.specs.written_steps.Laws.{sibling-needs}
use Rattle.inference.proofs.back_steps.Needs.with_siblings.Goals as goal

pub returns : goal.returns
returns c = λ s k.
    let last = c.with_step-last in
    let parents = c.step-parents in
    sibling-needs s (env_in s c.args.e) c.args.wanted c.empty.result c.args.self c.empty.ensures (env_in s parents.result) last.result c.with_step.result
    (parents.ensures s k) (last.ensures s k) (c.with_step.ensures s k)
