-- `node_test` meets its contract: a name, and then whether it is called.
use Rattle.std.proofs.Common.{sym, ◌∙◌}
use Rattle.std.proofs.lemmas.Result.{err_from_is_err_and}
use Rattle.bundle_text.proofs.steps.Steps.{due-end, due-not, due-long, due-named, due-called}
use Rattle.bundle_text.proofs.steps.node_test.Goals as goal
use Rattle.bundle_text.proofs.steps.node_test.Goals.{then-s-at-via-then-s-at, then-s-at-via-else-s-at+then-not-starts_name}

pub returns-then-s-at : goal.returns-then-s-at
returns-then-s-at c =
    elim c.then-s-at.branch [
      | then-s-at-via-then-s-at w ↦ due-end _ _ w.if-s-at.true
      | then-s-at-via-else-s-at+then-not-starts_name w ↦ due-not _ _ w.if-s-at.false (sym w.starts_name.ensures ∙ w.if-not-starts_name.true)
    ]

pub returns-in_err-j : goal.returns-in_err-j
returns-in_err-j c =
    let p = err_from_is_err_and c.from_residual.result c.from_residual.ensures.1 in
    rw (p.1, p.2) (due-long c.if-s-at.false (sym c.starts_name.ensures ∙ c.if-not-starts_name.false) c.name_end.ensures c.in_err-j.was)

pub returns-then-stands : goal.returns-then-stands
returns-then-stands c =
    due-called c.if-s-at.false (sym c.starts_name.ensures ∙ c.if-not-starts_name.false) c.name_end.ensures c.in_ok-j.was c.call.ensures

pub returns : goal.returns
returns c =
    due-named c.if-s-at.false (sym c.starts_name.ensures ∙ c.if-not-starts_name.false) c.name_end.ensures c.in_ok-j.was c.stands.ensures c.if-stands.false
