use Rattle.std.proofs.Common.{refl, arith}
use Rattle.selection.specs.first_paths.Firsts.{firsts-begun, firsts-path, firsts-next, firsts-all}
use Rattle.selection.proofs.first_paths.first_paths.Goals as goal

pub loop-i-init : goal.loop-i-init
loop-i-init c = firsts-begun _ _ _ _ _ c.requires _ (c.fill.ensures.after (λ y e. e)) (record { held = refl; steps = refl; next = refl; held-size = refl; steps-size = refl; next-size = refl })

pub select_path-requires : goal.select_path-requires
select_path-requires c =
    let at = c.loop-i in
    firsts-path _ _ _ _ _ c.requires at.i at.firsts at.marks at.scratch at.invariant (omega arith)

pub note-requires : goal.note-requires
note-requires c =
    let at = c.loop-i in
    omega (arith, at.invariant.cells, at.invariant.room-marks)

pub loop-i-preserved : goal.loop-i-preserved
loop-i-preserved c =
    let at = c.loop-i in
    firsts-next _ _ _ _ _ c.requires at.i at.firsts at.marks at.scratch at.invariant _ _ _ (omega arith) c.select_path.ensures.marks c.note.ensures (omega arith) c.select_path.ensures.kept

pub returns-clause-firsts : goal.returns-clause-firsts
returns-clause-firsts c =
    let at = c.loop-i in
    firsts-all _ _ _ _ _ c.requires at.i at.firsts at.marks at.scratch at.invariant (omega arith)
