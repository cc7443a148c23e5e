-- `link` meets its contract: the positions that the loop has passed are linked.
use mathlib.Core.Path.{sym, subst, ◌∙◌}
use Prim.Native.Nat.{◌+◌}
use native.Mathlib.Omega.{arith}
use Rattle.models.specs.BuildingLaws.{LinkedAt, linked-set, linked-kept, linked-all}
use Rattle.text_laws.specs.Loops.{Passed}
use Rattle.names.specs.bits.Bits.{bit_past}
use Rattle.std.proofs.lemmas.Nat.{leading_length}
use Rattle.models.proofs.automata.link.Goals as goal
use Rattle.models.proofs.automata.link.Goals.{then-has_bit, else-has_bit}

pub loop-j-preserved : goal.loop-j-preserved
loop-j-preserved c =
    let at = c.loop-j in
    let before = c.args.predecessors.now in (
      c.if-has_bit.auto.predecessors ∙ at.invariant.0,
      elim c.if-has_bit.branch [
        | then-has_bit w ↦ subst (Passed (LinkedAt before c.args.lasts c.args.firsts) 0 before (at.j + 1)) (sym w.predecessors-is) (linked-set before c.args.lasts c.args.firsts at.j at.predecessors (omega arith) at.invariant.1 (sym c.has_bit.ensures ∙ w.if-has_bit.true))
        | else-has_bit w ↦ subst (Passed (LinkedAt before c.args.lasts c.args.firsts) 0 before (at.j + 1)) (sym w.predecessors-is) (linked-kept before c.args.lasts c.args.firsts at.j at.predecessors at.invariant.1 (sym c.has_bit.ensures ∙ w.if-has_bit.false))
      ],
    )

pub returns : goal.returns
returns c =
    let w = leading_length 64 c.args.firsts (omega (arith, c.ranges.firsts)) in
    linked-all c.args.predecessors.now c.args.lasts c.args.firsts c.loop-j.j c.loop-j.predecessors (λ m h l. bit_past w.0 c.args.firsts m w.2 (let z = w.1 in omega arith)) c.loop-j.invariant.0 c.loop-j.invariant.1
