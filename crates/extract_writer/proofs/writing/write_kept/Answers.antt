-- `write_kept` meets its contract: the marks of the rows that the set keeps, and their extract.
use mathlib.Core.Path.{sym}
use Rattle.extract_writer.specs.writing.Extract.{prefix-length, kept-pass, kept-marked, answered-same}
use Rattle.extract_writer.proofs.writing.write_kept.Goals as goal

pub slice_bounds-kept-end : goal.slice_bounds-kept-end
slice_bounds-kept-end c = prefix-length _ _ 0 c.requires.columns.few

pub mark_kept-requires : goal.mark_kept-requires
mark_kept-requires c =
    kept-pass _ _ _ (record { columns = c.requires.columns; kept = c.requires.kept; room = sym (prefix-length _ _ 0 c.requires.columns.few) })

pub write_marked-requires : goal.write_marked-requires
write_marked-requires c =
    kept-marked _ _ _ (record { columns = c.requires.columns; kept = c.requires.kept; room = sym (prefix-length _ _ 0 c.requires.columns.few) }) _ _ c.mark_kept.ensures

pub returns : goal.returns
returns c = answered-same _ _ _ _ _ _ _ c.mark_kept.ensures c.write_marked.ensures
