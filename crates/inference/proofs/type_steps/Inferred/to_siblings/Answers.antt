-- `Inferred::to_siblings` meets its contract.
use Rattle.compiled_paths.specs.Steps.{node_test}
use Rattle.inference.specs.type_steps.Envs.{env_in}
use Rattle.inference.specs.written_steps.Laws.{siblings-reached}
use Rattle.inference.proofs.type_steps.Inferred.to_siblings.Goals as goal

pub returns : goal.returns
returns c = λ s k. siblings-reached s (node_test c.args.test) (env_in s c.args.self) (env_in s c.step-parents.result) (env_in s c.step.result) (c.step-parents.ensures s k) (c.step.ensures s k)
