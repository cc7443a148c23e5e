use native.Mathlib.Omega.{arith}
use Rattle.listing_text.specs.parts.Parts.{refusal-written}
use Rattle.listing_text.proofs.parts.put_refusal_by.Goals as goal

pub put_number-second-requires : goal.put_number-second-requires
put_number-second-requires c =
    let first = c.put_number-first.ensures in
    omega (arith, first.low, first.long)

pub put_text-requires : goal.put_text-requires
put_text-requires c =
    let first = c.put_number-first.ensures in
    omega (arith, c.put_number-second.ensures.low, c.put_number-second.ensures.long, first.low, first.long)

pub returns : goal.returns
returns c =
    refusal-written c.put_number-first.ensures c.put_number-second.ensures c.put_text.ensures
