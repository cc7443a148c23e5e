-- `names::codes::has` meets its contract.
use mathlib.Core.Path.{sym, ap, ◌∙◌}
use native.Mathlib.Omega.{arith}
use Rattle.names.specs.Sets.{member}
use Rattle.names.specs.codes.Laws.{element-of-code, text-of-code}
use Rattle.names.proofs.codes.has.Goals as goal

pub returns-then-c-lt-MAX_ELEMENTS : goal.returns-then-c-lt-MAX_ELEMENTS
returns-then-c-lt-MAX_ELEMENTS c = c.has_element.ensures ∙ ap (member c.args.t) (sym (element-of-code c.args.c c.if-c-lt-MAX_ELEMENTS.true))

pub returns-else-c-lt-MAX_ELEMENTS : goal.returns-else-c-lt-MAX_ELEMENTS
returns-else-c-lt-MAX_ELEMENTS c = c.has_text.ensures ∙ ap (member c.args.t) (sym (text-of-code c.args.c (omega arith)))
