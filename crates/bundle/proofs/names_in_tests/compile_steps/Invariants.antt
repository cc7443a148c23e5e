-- `compile_steps` meets its contract: the first i steps are compiled.
use Rattle.std.proofs.Common.{map}
use Rattle.bundle.proofs.names_in_tests.Compiled.{CompiledTo}
use Rattle.text_spec.specs.Scans.{name_at}
use Rattle.bundle.proofs.names_in_tests.compile_steps.Given as goal

abbrev pub invariant-loop-i : goal.invariant-loop-i
invariant-loop-i l = CompiledTo (map (name_at l.schema) l.names) l.text l.read l.at l.initial.steps l.fn.lost l.i l.steps l.least
