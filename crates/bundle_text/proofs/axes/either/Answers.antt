-- `either` meets its contract: the keyword, and then where the two axes part.
use Rattle.std.proofs.lemmas.Result.{err_from_is_err_and}
use Rattle.bundle_text.proofs.axes.Axes.{both-past, both-fail}
use Rattle.bundle_text.proofs.axes.either.Goals as goal

pub returns-in_err-j : goal.returns-in_err-j
returns-in_err-j c =
    let p = err_from_is_err_and c.from_residual.result c.from_residual.ensures.1 in
    rw (p.1, p.2) (both-fail c.args.axis c.args.longer c.args.e.now c.spell.ensures c.requires.1 c.in_err-j.was)

pub returns : goal.returns
returns c = both-past c.args.axis c.args.longer c.args.e.now c.spell.ensures c.requires.1 c.in_ok-j.was c.ending.ensures
