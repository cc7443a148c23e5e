use native.Mathlib.Omega.{arith}
use Rattle.listing_text.specs.parts.Parts.{tags-pass, tags-low, tags-written}
use Rattle.listing_text.proofs.parts.put_tags.Goals as goal

pub write_chain-size-requires : goal.write_chain-size-requires
write_chain-size-requires c = tags-pass _ _ _ _ _ _ _ _ c.requires

pub overflow_add-result : goal.overflow_add-result
overflow_add-result c =
    let low = tags-low _ _ _ _ _ _ _ _ c.requires _ _ c.write_chain-size.ensures in
    omega arith

pub returns : goal.returns
returns c =
    tags-written _ _ _ _ _ _ _ _ c.requires _ _ c.write_chain-size.ensures
