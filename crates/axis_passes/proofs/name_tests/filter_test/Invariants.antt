use Rattle.axis_passes.specs.name_tests.Tests.{names_in}
use Rattle.cells.specs.row_sets.Columns.{intersection}
use Rattle.cells.specs.row_sets.Loops.{Forward}
use Rattle.compiled_paths.specs.Steps.{node_test}
use Rattle.selection_laws.specs.marks.Selection.{test_marks}
use Rattle.axis_passes.proofs.name_tests.filter_test.Given as goal

abbrev pub invariant-loop-r : goal.invariant-loop-r
invariant-loop-r l = Forward (intersection l.from (test_marks (node_test l.test) (names_in l.codes))) l.initial.out l.r l.out
