-- `related_from` meets its contract: the images that the loop has passed, and one more.
use Rattle.std.proofs.Common.{rules, Bool, ℕ, ◌&&◌, ◌||◌, sym, ap, ap₂, ◌∙◌, add-one, arith}
use Rattle.std.proofs.Math.Bool.{or-false}
use Rattle.names.specs.Sets.{member}
use Rattle.names.specs.closures.Relations.{relates, related_from}
use Rattle.names.specs.declared.NameSet.{NameSet}
use Rattle.text_spec.specs.Lists.{any_below}
use Rattle.names.proofs.relations.related_from.Goals as goal
use Rattle.names.proofs.relations.related_from.Goals.{then-has_element, else-has_element}

pub loop-i-init : goal.loop-i-init
unfolding any_below
loop-i-init c = search rules

pub loop-i-preserved : goal.loop-i-preserved
unfolding any_below
loop-i-preserved c b =
    let at = c.loop-i in
    rw add-one (elim c.if-has_element.branch [
      | then-has_element w ↦
          ap (λ (x : NameSet). member x b) w.all-is ∙ w.bitor_assign.ensures.after b
          ∙ ap₂ ◌||◌ (at.invariant b) (ap (λ (t : Bool). t && relates c.args.images.now at.i b) (sym w.if-has_element.true ∙ c.has_element.ensures))
      | else-has_element w ↦
          ap (λ (x : NameSet). member x b) w.all-is ∙ at.invariant b ∙ sym (or-false _)
          ∙ ap (λ (t : Bool). related_from at.i c.args.images.now c.args.s b || (t && relates c.args.images.now at.i b)) (sym w.if-has_element.false ∙ c.has_element.ensures)
    ])

pub returns : goal.returns
returns c few b = c.loop-i.invariant b ∙ ap (λ (n : ℕ). related_from n c.args.images.now c.args.s b) (omega (arith, few))
