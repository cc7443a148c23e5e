-- `compile_steps` meets its contract: the first i steps are compiled.
use mathlib.Core.List.{map}
use Rattle.bundle.proofs.names_in_tests.Compiled.{compiled-by}
use Rattle.text_spec.specs.Scans.{name_at}
use Rattle.bundle.proofs.names_in_tests.compile_steps.Goals as goal

pub loop-i-preserved : goal.loop-i-preserved
loop-i-preserved c =
    compiled-by (map (name_at c.args.schema.now) c.args.names.now) c.args.text.now c.args.read.now c.args.at c.args.steps.now c.args.lost c.loop-i.invariant c.loop-i-test.true
    c.compile_test-test.ensures c.unwrap_or.ensures c.err.ensures.value c.earlier-least.ensures
