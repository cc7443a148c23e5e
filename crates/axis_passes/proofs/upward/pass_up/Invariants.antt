use Rattle.axis_passes.specs.upward.Upward.{Raises}
use Rattle.selection_laws.specs.marks.Passes.{AxisPass, Upward, Backward}
use Rattle.std.proofs.Common.{◌≤◌, length}
use Rattle.axis_passes.proofs.upward.pass_up.Given as goal

abbrev pub invariant-loop-r : goal.invariant-loop-r
invariant-loop-r g l = record {
  pass : AxisPass l.parents l.from l.out;
  within : l.r ≤ length l.parents;
  above : (a : Upward) → Raises a (goal.F-post g l.rule) l.parents l.from l.initial.out → Backward a l.parents l.from l.r l.out;
}
