-- `held_inside` meets its contract: each image is cut.
use Rattle.std.proofs.Common.{rules, arith, Bool, ◌&&◌, ◌<◌, ◌+◌, length, sym, ap, subst, ◌∙◌}
use Rattle.std.proofs.Math.Bool.{and-false}
use Rattle.std.proofs.Math.ListN.{get_or, length-set}
use Rattle.names.specs.Sets.{member, nothing}
use Rattle.needed_names.specs.reachable_names.Images.{ImageInside, image-is-inside, images-inside}
use Rattle.text_laws.specs.Loops.{Passed, passed_first, passed-next}
use Rattle.needed_names.proofs.reachable_names.held_inside.Goals as goal
use Rattle.needed_names.proofs.reachable_names.held_inside.Goals.{then-has_element, else-has_element}

pub loop-a-init : goal.loop-a-init
loop-a-init c = (search rules, passed_first (ImageInside c.args.«holds».now c.args.m) nothing c.args.«holds».now)

pub loop-a-preserved : goal.loop-a-preserved
loop-a-preserved c =
    let at = c.loop-a in
    let m = c.args.m in
    let held = c.args.«holds».now in
    let image = get_or at.images at.a nothing in
    let inside : at.a < length at.images = omega arith in
    elim c.if-has_element.branch [
      | then-has_element w ↦ (
        ap length w.images-is ∙ length-set at.images at.a w.bitand.result ∙ at.invariant.0,
        subst (Passed (ImageInside held m) nothing held (at.a + 1)) (sym w.images-is)
            (passed-next (ImageInside held m) nothing held at.a at.images w.bitand.result inside at.invariant.1 (image-is-inside held m at.a at.images w.bitand.result at.invariant.1
            (λ b. w.bitand.ensures b ∙ ap (λ (t : Bool). member image b && (t && member m b)) (sym w.if-has_element.true ∙ c.has_element.ensures)))),
      )
      | else-has_element w ↦ (
        ap length w.images-is ∙ length-set at.images at.a w.empty.result ∙ at.invariant.0,
        subst (Passed (ImageInside held m) nothing held (at.a + 1)) (sym w.images-is)
            (passed-next (ImageInside held m) nothing held at.a at.images w.empty.result inside at.invariant.1 (image-is-inside held m at.a at.images w.empty.result at.invariant.1
            (λ b. w.empty.ensures b ∙ sym (and-false (member image b)) ∙ ap (λ (t : Bool). member image b && (t && member m b)) (sym w.if-has_element.false ∙ c.has_element.ensures)))),
      )
    ]

pub returns : goal.returns
returns c past = images-inside c.args.«holds».now c.args.m c.loop-a.a c.loop-a.images (λ a b l. past a b (omega arith)) c.loop-a.invariant.1
