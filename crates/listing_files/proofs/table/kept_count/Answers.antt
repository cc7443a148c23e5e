use Rattle.std.proofs.Common.{sym, ◌∙◌}
use Rattle.listing_files.specs.table.Tables.{scratch-size, kept-asked}
use Rattle.listing_files.proofs.table.kept_count.Goals as goal

pub slice_bounds-number_kept-end : goal.slice_bounds-number_kept-end
slice_bounds-number_kept-end c = sym (scratch-size _ c.requires.listed)

pub number_kept-requires : goal.number_kept-requires
number_kept-requires c = kept-asked _ _ c.requires

pub returns : goal.returns
returns c = c.from.ensures ∙ c.number_kept.ensures.counted
