use Rattle.listing_text.specs.lines.Lines.{no_line, some-line}
use Rattle.listing_text.proofs.lines.put_row.Goals as goal

pub returns-then-place-eq0 : goal.returns-then-place-eq0
returns-then-place-eq0 c = no_line _ _ _ _ _ c.if-place-eq0.true

pub returns : goal.returns
returns c =
    some-line _ _ _ _ _ _ _ c.if-place-eq0.false (rw (c.from-number.ensures, c.from.ensures) at c.put_line.ensures)
