-- `names::codes::single` meets its contract.
use native.Mathlib.Omega.{arith}
use Rattle.names.specs.codes.Laws.{single-element, single-text}
use Rattle.names.proofs.codes.single.Goals as goal

pub returns-then-c-lt-MAX_ELEMENTS : goal.returns-then-c-lt-MAX_ELEMENTS
returns-then-c-lt-MAX_ELEMENTS c = single-element c.args.c c.empty.result c.insert_element.result c.if-c-lt-MAX_ELEMENTS.true c.empty.ensures c.insert_element.ensures

pub returns-else-c-lt-MAX_ELEMENTS : goal.returns-else-c-lt-MAX_ELEMENTS
returns-else-c-lt-MAX_ELEMENTS c = single-text c.args.c c.empty-else-c-lt-MAX_ELEMENTS.result c.insert_text.result (omega arith) (omega arith) c.empty-else-c-lt-MAX_ELEMENTS.ensures c.insert_text.ensures
