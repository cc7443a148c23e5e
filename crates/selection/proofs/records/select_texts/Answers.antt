use Rattle.compiled_schema.specs.Places.{names-taken, names-few}
use Rattle.selection.specs.records.Records.{some-schema, paths-shaped, texts-selected}
use Rattle.selection.proofs.records.select_texts.Goals as goal

pub slice_bounds-names-end : goal.slice_bounds-names-end
slice_bounds-names-end c = names-taken _ _ c.compile-compiled.ensures

pub compiled_paths-paths-requires : goal.compiled_paths-paths-requires
compiled_paths-paths-requires c = names-few _ _ c.compile-compiled.ensures

pub select_lent-requires : goal.select_lent-requires
select_lent-requires c =
    let made = c.compile-compiled.ensures in
    (paths-shaped _ _ made _ c.held_words-words.ensures _ _ c.compiled_paths-paths.ensures, some-schema _ _ made _ c.held_words-words.ensures)

pub returns : goal.returns
returns c =
    texts-selected _ _ c.compile-compiled.ensures _ c.held_words-words.ensures _ _ c.compiled_paths-paths.ensures _ _ _ _ _ _ _ _ c.select_lent.ensures
