-- The type and the context that words stand for.
use Rattle.inference_spec.specs.Types.{Env, env}
use Rattle.inference.specs.declared.type_steps.Inferred.{Inferred}
use Rattle.names.specs.Sets.{set_in}
use Rattle.schema_spec.specs.Schemas.{Schema}

abbrev pub env_in : Schema → Inferred → Env
env_in s e = env (set_in s e.types) (set_in s e.context)
