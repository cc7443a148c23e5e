-- `names_between` meets its contract: by the axis.
use Rattle.std.proofs.Common.{◌≡◌, ⊎_elim, sym, ap₂, ◌∙◌}
use Rattle.inference.specs.back_steps.Laws.{empty-set_in, none_between}
use Rattle.inference.specs.type_steps.Laws.{common-within}
use Rattle.inference_spec.specs.Types.{all_below, all_above}
use Rattle.names.specs.Sets.{set_in}
use Rattle.schema_spec.specs.Names.{within}
use Rattle.schema_spec.specs.Types.{types_of}
use Rattle.inference.proofs.back_steps.names_between.Goals as goal

pub returns-in-Descendant : goal.returns-in-Descendant
returns-in-Descendant c = λ s k.
    let inner : set_in s c.bitand.result ≡ within (all_below (types_of s) (set_in s c.args.g)) (all_above (types_of s) (set_in s c.args.h)) =
    common-within s c.all_below.result c.all_above.result c.bitand.result c.bitand.ensures ∙ ap₂ within (c.all_below.ensures.of_schema s k) (c.all_above.ensures.of_schema s k) in
    ⊎_elim (λ e. rw e inner) (λ e. rw e inner) c.in-Descendant.is

pub returns-in_default : goal.returns-in_default
returns-in_default c = λ s k.
    empty-set_in s c.empty.result c.empty.ensures ∙ sym (none_between s c.args.axis (set_in s c.args.g) (set_in s c.args.h) c.in_default.not-Descendant c.in_default.not-DescendantOrSelf)
