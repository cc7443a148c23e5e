-- `from_name` meets its contract.
use Rattle.std.proofs.Common.{ap, ◌∙◌}
use Rattle.inference_spec.specs.Types.{env, cut_to}
use Rattle.names.specs.Sets.{set_in}
use Rattle.names.specs.codes.Codes.{name_of_code}
use Rattle.names.specs.codes.Laws.{single-list}
use Rattle.schema_spec.specs.Names.{Names}
use Rattle.schema_spec.specs.Types.{types_of}
use Rattle.needed_names.proofs.alternatives.from_name.Goals as goal

pub returns : goal.returns
returns c = λ s k i.
    c.narrowed_to.ensures s k
    ∙ ap (λ (t : Names). env t (cut_to (types_of s) t (set_in s c.args.k))) (single-list s (name_of_code c.args.c) c.single-types.result i c.single-types.ensures)
