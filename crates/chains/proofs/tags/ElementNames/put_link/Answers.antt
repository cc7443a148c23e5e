-- `put_link` meets its contract: `/`, then the element's name or `text()`.
use native.Mathlib.Omega.{arith}
use Rattle.chains.proofs.tags.Links.{element-fits, element-room, element-written, text-room, text-written, slash-room}
use Rattle.chains.proofs.tags.ElementNames.put_link.Goals as goal

pub bounds-out-at : goal.bounds-out-at
bounds-out-at c = slash-room _ _ _ _ _ _ c.requires

pub overflow_add-to : goal.overflow_add-to
overflow_add-to c =
    let fits = element-fits _ _ _ _ _ _ c.requires (omega arith) in
    omega (arith, fits)

pub slice_bounds-put_text-end : goal.slice_bounds-put_text-end
slice_bounds-put_text-end c = omega (arith, element-fits _ _ _ _ _ _ c.requires (omega arith))

pub put_text-requires : goal.put_text-requires
put_text-requires c = element-room _ _ _ _ _ _ c.requires (omega arith)

pub returns-then-e-lt-MAX_ELEMENTS-clause-after : goal.returns-then-e-lt-MAX_ELEMENTS-clause-after
returns-then-e-lt-MAX_ELEMENTS-clause-after c = (element-written _ _ _ _ _ _ c.requires (omega arith) c.put_text.ensures).0

pub returns-then-e-lt-MAX_ELEMENTS-clause-written : goal.returns-then-e-lt-MAX_ELEMENTS-clause-written
returns-then-e-lt-MAX_ELEMENTS-clause-written c = (element-written _ _ _ _ _ _ c.requires (omega arith) c.put_text.ensures).1

pub put_text-requires-2 : goal.put_text-requires-2
put_text-requires-2 c = text-room _ _ _ _ _ _ c.requires (omega arith)

pub returns-clause-after : goal.returns-clause-after
returns-clause-after c = (text-written _ _ _ _ _ _ c.requires (omega arith) c.put_text-2.ensures).0

pub returns-clause-written : goal.returns-clause-written
returns-clause-written c = (text-written _ _ _ _ _ _ c.requires (omega arith) c.put_text-2.ensures).1
