-- `list_rows` meets its contract: the needed names, the rows kept, the first paths, the names.
use mathlib.Core.Path.{refl}
use Rattle.compiled_schema.specs.Places.{compiled-few}
use Rattle.listing_files.proofs.list_rows.Goals as goal

pub needed_under-needed-requires : goal.needed_under-needed-requires
needed_under-needed-requires c =
    (c.requires.0.shaped, compiled-few _ _ c.requires.0.compiled)

pub kept_count-kept-requires : goal.kept_count-kept-requires
kept_count-kept-requires c =
    record { columns = c.requires.0.kept; listed = c.requires.0.listed }

pub note_paths-requires : goal.note_paths-requires
note_paths-requires c =
    let pre = c.requires.0 in
    (record { shaped = pre.shaped; columns = pre.columns; cells = pre.cells; listed = pre.listed }, c.requires.1)

pub returns : goal.returns
returns c =
    record {
      rows_are = refl;
      selected-is = c.selected_count-selected.ensures;
      set = c.needed_under-needed.result;
      set-needed = c.needed_under-needed.ensures;
      kept-is = c.kept_count-kept.ensures;
      noted = c.note_paths.ensures;
      names-are = refl;
    }
