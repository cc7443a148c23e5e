use borrow.Author.Tests.{eq-eqb, ne_eqb}
use Rattle.selection.proofs.first_paths.first_of.Goals.{else-mark-eq-MARKED-via-then-mark-eq-MARKED+else-first-eq-NO_PATH, else-mark-eq-MARKED-via-else-mark-eq-MARKED}
use Rattle.selection.proofs.first_paths.first_of.Goals as goal

pub returns-then-first-eq-NO_PATH : goal.returns-then-first-eq-NO_PATH
returns-then-first-eq-NO_PATH c = simp (eq-eqb _ _ c.if-mark-eq-MARKED.true, eq-eqb _ _ c.if-first-eq-NO_PATH.true)

pub returns-else-mark-eq-MARKED : goal.returns-else-mark-eq-MARKED
returns-else-mark-eq-MARKED c =
    elim c.else-mark-eq-MARKED.branch [
      | else-mark-eq-MARKED-via-then-mark-eq-MARKED+else-first-eq-NO_PATH w ↦ simp (eq-eqb _ _ w.if-mark-eq-MARKED.true, ne_eqb _ _ w.if-first-eq-NO_PATH.false)
      | else-mark-eq-MARKED-via-else-mark-eq-MARKED w ↦ simp (ne_eqb _ _ w.if-mark-eq-MARKED.false)
    ]
