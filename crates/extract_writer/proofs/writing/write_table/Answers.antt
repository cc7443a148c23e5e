use Rattle.extract_writer.specs.writing.Extract.{prefix-length, every-row, all-marked, answered-same}
use Rattle.text_spec.specs.Limits.{max_nodes}
use Rattle.extract_writer.proofs.writing.write_table.Goals as goal

pub slice_bounds-write_marked-end : goal.slice_bounds-write_marked-end
slice_bounds-write_marked-end c = prefix-length _ _ 1 c.requires.few

pub write_marked-requires : goal.write_marked-requires
write_marked-requires c =
    every-row _ _ max_nodes c.requires c.requires.few

pub returns : goal.returns
returns c =
    answered-same _ _ _ _ _ _ _ (all-marked max_nodes _ c.requires.few) c.write_marked.ensures
