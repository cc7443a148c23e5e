use mathlib.Core.Path.{◌≡◌}
use Prim.Native.Nat.{◌<◌}
use Rattle.cells.specs.row_sets.Columns.{marks, is_marked}
use Rattle.cells.specs.row_sets.Loops.{Forward}
use Rattle.kept_rows.specs.Kept.{code_count, kept_marks, KeptPass}
use Rattle.kept_rows.proofs.mark_kept.Given as goal

abbrev pub invariant-loop-r : goal.invariant-loop-r
invariant-loop-r l = (0 < l.r) × KeptPass l.names l.parents l.initial.kept × (l.table ≡ marks code_count (is_marked l.table)) × Forward (kept_marks (is_marked l.table) l.names l.parents) l.initial.kept l.r l.kept
