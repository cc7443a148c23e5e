-- `Inferred::moved` meets its contract: by the axis.
use Rattle.std.proofs.Common.{ap, ◌∙◌}
use Rattle.compiled_paths.specs.Steps.{node_test}
use Rattle.inference_spec.specs.Types.{env, cut_to, union_of}
use Rattle.inference.specs.type_steps.Laws.{common-within, union-union_of, tested-filter, move-child, move-descendant, move-descendant_or_self}
use Rattle.names.specs.Sets.{set_in}
use Rattle.schema_spec.specs.Names.{Names, within}
use Rattle.schema_spec.specs.Types.{types_of}
use Rattle.inference.proofs.type_steps.Inferred.moved.Goals as goal

pub returns-in-Child : goal.returns-in-Child
returns-in-Child c = rw c.in-Child.is (λ s k.
    let e = c.args.self in
    let t = c.held_by-types.result in
    move-child s (node_test c.args.test) (set_in s e.types) (set_in s e.context) (set_in s t) (set_in s c.tested.result) (set_in s c.bitor.result) (c.held_by-types.ensures.of_schema s k)
    (tested-filter s k.small (node_test c.args.test) t c.tested.result c.tested.ensures) (union-union_of s e.context c.tested.result c.bitor.result c.bitor.ensures))

pub returns-in-Descendant : goal.returns-in-Descendant
returns-in-Descendant c = rw c.in-Descendant.is (λ s k.
    let e = c.args.self in
    let t = c.all_below-types.result in
    let r = c.bitor-in-Descendant in
    move-descendant s (node_test c.args.test) (set_in s e.types) (set_in s e.context) (set_in s t) (set_in s r.result) (c.all_below-types.ensures.of_schema s k) (union-union_of s e.context t r.result r.ensures))

pub returns-in-DescendantOrSelf : goal.returns-in-DescendantOrSelf
returns-in-DescendantOrSelf c = rw c.in-DescendantOrSelf.is (λ s k.
    let e = c.args.self in
    let down = c.all_below in
    let t = c.bitor-types in
    let r = c.bitor-in-DescendantOrSelf in
    move-descendant_or_self s (node_test c.args.test) (set_in s e.types) (set_in s e.context) (set_in s down.result) (set_in s t.result) (set_in s r.result)
    (down.ensures.of_schema s k) (union-union_of s e.types down.result t.result t.ensures) (union-union_of s e.context t.result r.result r.ensures))

pub returns-in-Parent : goal.returns-in-Parent
returns-in-Parent c = rw c.in-Parent.is (λ s k.
    let e = c.args.self in
    c.narrowed_to.ensures s k
    ∙ ap (λ (t : Names). env t (cut_to (types_of s) t (set_in s e.context)))
    (common-within s c.holding.result e.context c.bitand.result c.bitand.ensures ∙ ap (λ (u : Names). within u (set_in s e.context)) (c.holding.ensures.of_schema s k)))

pub returns-in-Ancestor : goal.returns-in-Ancestor
returns-in-Ancestor c = rw c.in-Ancestor.is (λ s k.
    let e = c.args.self in
    let both = c.bitand-in-Ancestor in
    c.narrowed_to-in-Ancestor.ensures s k
    ∙ ap (λ (t : Names). env t (cut_to (types_of s) t (set_in s e.context)))
    (common-within s c.all_above.result e.context both.result both.ensures ∙ ap (λ (u : Names). within u (set_in s e.context)) (c.all_above.ensures.of_schema s k)))

pub returns-in-AncestorOrSelf : goal.returns-in-AncestorOrSelf
returns-in-AncestorOrSelf c = rw c.in-AncestorOrSelf.is (λ s k.
    let e = c.args.self in
    let up = c.all_above-in-AncestorOrSelf in
    let above = c.bitand-above in
    let t = c.bitor-in-AncestorOrSelf in
    c.narrowed_to-in-AncestorOrSelf.ensures s k
    ∙ ap (λ (t : Names). env t (cut_to (types_of s) t (set_in s e.context)))
    (union-union_of s e.types above.result t.result t.ensures
    ∙ ap (union_of (types_of s) (set_in s e.types)) (common-within s up.result e.context above.result above.ensures ∙ ap (λ (u : Names). within u (set_in s e.context)) (up.ensures.of_schema s k))))
