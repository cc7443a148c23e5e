-- `from_root` meets its contract.
use Rattle.std.proofs.Common.{rules, arith, ℕ, ◌≡◌, min, sym, subst}
use Rattle.std.proofs.Math.ListN.{get_or}
use Rattle.names.specs.Sets.{nothing}
use Rattle.names.specs.closures.Relations.{NonePast}
use Rattle.needed_names.specs.reachable_names.Images.{inside-holds, inside-none-past, root-or-reached}
use Rattle.needed_names.specs.reachable_names.Reached.{reached-from_root}
use Rattle.text_spec.specs.Limits.{max_declarations}
use Rattle.needed_names.proofs.reachable_names.from_root.Goals as goal

pub returns : goal.returns
returns c = λ s k l e.
    let t = c.args.relations.now in
    let m = c.args.m in
    let images = c.held_inside-images in
    let least : c.min.result ≡ min t.count max_declarations = search rules in
    let whole : c.min.result ≡ t.count = omega (arith, k.small, k.counted, least) in
    let held = λ (past : NonePast t.count t.«holds»). images.ensures (subst (λ (n : ℕ). NonePast n t.«holds») (sym whole) past) in
    let inside = c.of-inside in
    let reached = c.insert_element-reached in
    reached-from_root s k.closed t.count k.counted l m e images.result (inside-holds s t images.result m k held) inside.result.below c.bitand.result
    (inside.ensures.beneath (inside-none-past s t images.result m k held)) (root-or-reached m (get_or inside.result.below 0 nothing) reached.result c.bitand.result reached.ensures c.bitand.ensures)
