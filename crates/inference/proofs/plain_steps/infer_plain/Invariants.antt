-- `infer_plain`: what the steps that are left infer from here, all steps infer from the start.
use Rattle.std.proofs.Common.{◌≡◌, ℕ, ◌+◌, drop}
use Rattle.inference_spec.specs.Needed.{keeps_all}
use Rattle.inference_spec.specs.Types.{infer_all}
use Rattle.inference.specs.plain_steps.Laws.{analysed}
use Rattle.inference.specs.type_steps.Envs.{env_in}
use Rattle.names.specs.relations.Relations.{RelationsOf}
use Rattle.schema_spec.specs.Schemas.{Schema}
use Rattle.schema_spec.specs.Types.{types_of}
use Rattle.inference.proofs.plain_steps.infer_plain.Given as goal

abbrev pub invariant-loop-step : goal.invariant-loop-step
invariant-loop-step l =
    (s : Schema) → RelationsOf s l.relations → (i : ℕ)
    → infer_all (types_of s) keeps_all (analysed (i + l.step-index) (drop l.step-index l.steps)) (env_in s l.reached) ≡ infer_all (types_of s) keeps_all (analysed i l.steps) (env_in s l.initial.reached)
