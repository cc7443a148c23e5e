-- `path_needed` meets its contract.
use Rattle.std.proofs.Common.{ap, ap₂, ◌∙◌}
use Rattle.inference_spec.specs.Needed.{keeps_name, wants_names, need, from_root, needed_before_filter, needed_by_path}
use Rattle.inference_spec.specs.Types.{Env, env}
use Rattle.names.specs.Sets.{set_in}
use Rattle.needed_names.specs.asked.Asked.{asked_steps}
use Rattle.path_spec.specs.Paths.{unconditional, expand}
use Rattle.schema_spec.specs.Types.{types_of}
use Rattle.needed_names.proofs.paths.path_needed.Goals as goal

pub returns : goal.returns
unfolding needed_by_path needed_before_filter types_of
returns c = λ s k.
    let root = c.root-root in
    let needs = need (types_of s) (keeps_name (types_of s)) (wants_names (types_of s)) (expand unconditional (asked_steps c.args.asked.now c.args.n c.args.k)) in
    let e = root.ensures s k.relations.full in
    c.from_root.ensures s k.relations (needs (env (set_in s root.result) (set_in s root.result))) (c.need_steps-needs.ensures s k 1).names
    ∙ ap (λ (x : Env). from_root (types_of s) (needs x)) (ap₂ env e e)
