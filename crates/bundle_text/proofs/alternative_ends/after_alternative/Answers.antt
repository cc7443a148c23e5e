-- `after_alternative` meets its contract: the byte decides, and then the rest of ` or `.
use Rattle.std.proofs.lemmas.Result.{err_from_is_err_and}
use Rattle.bundle_text.proofs.alternative_ends.Reading.{follow-end, follow-close, follow-not, follow-more, follow-stops}
use Rattle.bundle_text.proofs.alternative_ends.after_alternative.Goals as goal

pub returns-then-s-at : goal.returns-then-s-at
returns-then-s-at c = record { says = follow-end _ _ c.if-s-at.true }

pub returns-then-s-at-eq93 : goal.returns-then-s-at-eq93
returns-then-s-at-eq93 c = record { says = follow-close _ _ c.if-s-at.false c.if-s-at-eq93.true }

pub returns-then-s-at-ne32 : goal.returns-then-s-at-ne32
returns-then-s-at-ne32 c = record { says = follow-not _ _ c.if-s-at.false c.requires.1 c.if-s-at-eq93.false c.if-s-at-ne32.true }

pub returns-in_err-j : goal.returns-in_err-j
returns-in_err-j c =
    let p = err_from_is_err_and c.from_residual.result c.from_residual.ensures.1 in
    rw (p.1, p.2) (record { says = follow-stops _ _ c.if-s-at.false c.if-s-at-ne32.false c.spell.ensures c.in_err-j.was })

pub returns : goal.returns
returns c = record { says = follow-more _ _ c.if-s-at.false c.if-s-at-ne32.false c.spell.ensures c.in_ok-j.was }
