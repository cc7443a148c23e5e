-- `cut` meets its contract: scratch for the rows that there are.
use mathlib.Core.Path.{sym}
use Rattle.kept_rows.specs.columns.Cut.{scratch-room}
use Rattle.kept_rows.proofs.columns.cut.Goals as goal

pub slice_bounds-positions-end : goal.slice_bounds-positions-end
slice_bounds-positions-end c = c.requires.0.kept.few

pub slice_bounds-cut_into-end : goal.slice_bounds-cut_into-end
slice_bounds-cut_into-end c = sym (scratch-room _ _ c.requires.0.kept.few)

pub cut_into-requires : goal.cut_into-requires
cut_into-requires c =
    record { rows = c.requires.0; scratch = scratch-room _ _ c.requires.0.kept.few; lent = c.requires.1 }

pub returns : goal.returns
returns c = c.cut_into.ensures
