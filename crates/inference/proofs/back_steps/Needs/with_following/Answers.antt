-- `Needs::with_following` meets its contract.
use Rattle.inference.specs.type_steps.Envs.{env_in}
use Rattle.inference.specs.written_steps.Laws.{following-needs}
use Rattle.inference.proofs.back_steps.Needs.with_following.Goals as goal

pub returns : goal.returns
returns c = λ s k.
    let second = c.with_step-second in
    let third = c.with_step-third in
    let none = c.empty-none in
    let last = c.with_step-last in
    let siblings = c.step-siblings in
    let parents = c.step-parents in
    let up = c.step-up in
    following-needs s (env_in s c.args.e) c.args.wanted none.result c.args.self none.ensures (env_in s up.result) (env_in s parents.result) (env_in s siblings.result)
    last.result third.result second.result c.with_step.result (up.ensures s k) (parents.ensures s k) (siblings.ensures s k)
    (last.ensures s k) (third.ensures s k) (second.ensures s k) (c.with_step.ensures s k)
