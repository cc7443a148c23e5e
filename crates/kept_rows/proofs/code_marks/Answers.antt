use mathlib.Core.Bool.{Bool, true, false}
use mathlib.Core.Path.{◌≡◌, refl, sym, ◌∙◌}
use native.Mathlib.Omega.{arith}
use mir.Val.{bool_byte}
use Rattle.cells.specs.row_sets.Columns.{mark, marks-length}
use Rattle.cells.specs.row_sets.Loops.{forward-none, forward-all}
use Rattle.kept_rows.specs.Kept.{code_count, codes-next}
use Rattle.kept_rows.proofs.code_marks.Goals as goal

byte-mark : (b : Bool) → bool_byte b ≡ mark b
byte-mark true = refl
byte-mark false = refl

pub loop-c-init : goal.loop-c-init
loop-c-init c = forward-none _ _

pub loop-c-preserved : goal.loop-c-preserved
loop-c-preserved c =
    let at = c.loop-c in
    codes-next _ _ at.c at.table _ _ (omega arith) at.invariant (c.from.ensures ∙ byte-mark _) c.has.ensures refl

pub returns : goal.returns
returns c =
    let at = c.loop-c in
    forward-all _ _ at.c at.table (sym (marks-length code_count _)) at.invariant (omega (arith, at.invariant.size))
