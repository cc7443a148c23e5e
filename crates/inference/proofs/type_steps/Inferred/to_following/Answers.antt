-- `Inferred::to_following` meets its contract.
use Rattle.compiled_paths.specs.Steps.{node_test}
use Rattle.inference.specs.type_steps.Envs.{env_in}
use Rattle.inference.specs.written_steps.Laws.{following-reached}
use Rattle.inference.proofs.type_steps.Inferred.to_following.Goals as goal

pub returns : goal.returns
returns c = λ s k.
    let up = c.step-up in
    let siblings = c.to_siblings-siblings in
    following-reached s (node_test c.args.test) (env_in s c.args.self) (env_in s up.result) (env_in s siblings.result) (env_in s c.step.result)
    (up.ensures s k) (siblings.ensures s k) (c.step.ensures s k)
