-- `rest` meets its contract: the keyword.
use Rattle.std.proofs.lemmas.Result.{err_from_is_err_and}
use Rattle.bundle_text.proofs.axes.Axes.{rest-past, rest-fail}
use Rattle.bundle_text.proofs.axes.rest.Goals as goal

pub returns-in_err-j : goal.returns-in_err-j
returns-in_err-j c =
    let p = err_from_is_err_and c.from_residual.result c.from_residual.ensures.1 in
    rw (p.1, p.2) (rest-fail c.args.axis c.spell.ensures c.requires.1 c.in_err-j.was)

pub returns : goal.returns
returns c = rest-past c.args.axis c.spell.ensures c.requires.1 c.in_ok-j.was
