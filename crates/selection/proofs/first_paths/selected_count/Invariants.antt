use Rattle.selection.specs.first_paths.Firsts.{Counting}
use Rattle.selection.proofs.first_paths.selected_count.Given as goal

abbrev pub invariant-loop-first : goal.invariant-loop-first
invariant-loop-first l = Counting l.firsts l.first-index l.n
