use mathlib.Core.Path.{sym}
use Rattle.listing_files.specs.table.Tables.{scratch-size, no_rows, paths-asked}
use Rattle.listing_files.proofs.table.note_paths.Goals as goal

pub returns-then-count-eq0 : goal.returns-then-count-eq0
returns-then-count-eq0 c = no_rows _ _ _ c.requires.0 c.if-count-eq0.true

pub slice_bounds-scratch-end : goal.slice_bounds-scratch-end
slice_bounds-scratch-end c = sym (scratch-size _ c.requires.0.listed)

pub slice_bounds-scratch-end-2 : goal.slice_bounds-scratch-end-2
slice_bounds-scratch-end-2 c = sym (scratch-size _ c.requires.0.listed)

pub slice_bounds-scratch-end-3 : goal.slice_bounds-scratch-end-3
slice_bounds-scratch-end-3 c = sym (scratch-size _ c.requires.0.listed)

pub slice_bounds-first_paths-end : goal.slice_bounds-first_paths-end
slice_bounds-first_paths-end c = sym (scratch-size _ c.requires.0.listed)

pub first_paths-requires : goal.first_paths-requires
first_paths-requires c =
    let size = scratch-size _ c.requires.0.listed in
    paths-asked _ _ _ c.requires.0 c.requires.1 c.if-count-eq0.false _ _ size (record { held = size; steps = size; next = size })
