-- `related_names` meets its contract: by the axis.
use Rattle.std.proofs.Common.{ap, ◌∙◌}
use Rattle.inference_spec.specs.Types.{union_of}
use Rattle.inference.specs.back_steps.Laws.{holding-related, all_above-related, descendant_or_self-related, held_by-related, all_below-related, ancestor_or_self-related}
use Rattle.inference.specs.type_steps.Laws.{union-union_of}
use Rattle.names.specs.Sets.{set_in}
use Rattle.schema_spec.specs.Types.{types_of}
use Rattle.inference.proofs.back_steps.related_names.Goals as goal

pub returns-in-Child : goal.returns-in-Child
returns-in-Child c = rw c.in-Child.is (λ s k. holding-related s (set_in s c.args.h) (set_in s c.holding.result) (c.holding.ensures.of_schema s k))

pub returns-in-Descendant : goal.returns-in-Descendant
returns-in-Descendant c = rw c.in-Descendant.is (λ s k. all_above-related s (set_in s c.args.h) (set_in s c.all_above.result) (c.all_above.ensures.of_schema s k))

pub returns-in-DescendantOrSelf : goal.returns-in-DescendantOrSelf
returns-in-DescendantOrSelf c = rw c.in-DescendantOrSelf.is (λ s k.
    let up = c.all_above-in-DescendantOrSelf in
    descendant_or_self-related s (set_in s c.args.h) (set_in s c.bitor.result)
    (union-union_of s c.args.h up.result c.bitor.result c.bitor.ensures ∙ ap (union_of (types_of s) (set_in s c.args.h)) (up.ensures.of_schema s k)))

pub returns-in-Parent : goal.returns-in-Parent
returns-in-Parent c = rw c.in-Parent.is (λ s k. held_by-related s (set_in s c.args.h) (set_in s c.held_by.result) (c.held_by.ensures.of_schema s k))

pub returns-in-Ancestor : goal.returns-in-Ancestor
returns-in-Ancestor c = rw c.in-Ancestor.is (λ s k. all_below-related s (set_in s c.args.h) (set_in s c.all_below.result) (c.all_below.ensures.of_schema s k))

pub returns-in-AncestorOrSelf : goal.returns-in-AncestorOrSelf
returns-in-AncestorOrSelf c = rw c.in-AncestorOrSelf.is (λ s k.
    let down = c.all_below-in-AncestorOrSelf in
    let r = c.bitor-in-AncestorOrSelf in
    ancestor_or_self-related s (set_in s c.args.h) (set_in s r.result) (union-union_of s c.args.h down.result r.result r.ensures ∙ ap (union_of (types_of s) (set_in s c.args.h)) (down.ensures.of_schema s k)))
