-- `copy_elements` meets its contract: what is still to be copied stands from i on.
use Rattle.std.proofs.Common.{◌≡◌, ℕ, ◌+◌, ◌<◌, List, refl, sym, ap, ◌∙◌, add-one, arith, length, drop, get_or, set, drop_of_length-le, drop-cons}
use Rattle.std.proofs.lemmas.List.Edits.{sets}
use Rattle.compiled_schema.proofs.entry_parts.copy_elements.Goals as goal

copied_next : (model cells : List ℕ) (i : ℕ) → i < length model → sets (set cells i (get_or model i 0)) (i + 1) (drop (i + 1) model) ≡ sets cells i (drop i model)
copied_next model cells i l = rw (add-one i) (ap (sets cells i) (sym (drop-cons model i 0 l)))

pub loop-i-init : goal.loop-i-init
loop-i-init c = refl

pub overflow_cast-elements : goal.overflow_cast-elements
overflow_cast-elements c = omega (arith, c.requires.0 c.loop-i.i c.loop-i-test.true)

pub loop-i-preserved : goal.loop-i-preserved
loop-i-preserved c =
    let at = c.loop-i in
    copied_next c.args.model.now at.elements at.i c.loop-i-test.true ∙ at.invariant

pub returns : goal.returns
returns c =
    let at = c.loop-i in
    ap (sets at.elements at.i) (sym (drop_of_length-le c.args.model.now c.loop-i-test.false)) ∙ at.invariant
