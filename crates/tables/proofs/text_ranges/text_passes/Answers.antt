-- `text_passes` meets its contract: a range that passes ends inside the text.
use Rattle.std.proofs.Common.{arith, sym, ◌∙◌}
use Rattle.tables.proofs.text_ranges.Decoding.{range_inside}
use Rattle.tables.proofs.text_ranges.text_passes.Goals as goal

pub range_decodes-requires : goal.range_decodes-requires
range_decodes-requires c =
    (c.requires.1, range_inside _ _ _ (sym c.range_passes.ensures ∙ c.if-range_passes.true), omega arith)
