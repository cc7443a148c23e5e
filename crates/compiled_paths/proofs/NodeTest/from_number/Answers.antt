-- `NodeTest::from_number` meets its contract.
use Rattle.std.proofs.Common.{arith, sym}
use Rattle.compiled_paths.specs.Columns.{test_of, test-named}
use Rattle.compiled_paths.proofs.NodeTest.from_number.Goals as goal

pub returns-in-254 : goal.returns-in-254
unfolding test_of
returns-in-254 c = rw c.in-254.is

pub returns-in-255 : goal.returns-in-255
unfolding test_of
returns-in-255 c = rw c.in-255.is

pub returns-in_default : goal.returns-in_default
returns-in_default c = sym (test-named c.args.number (λ e. omega arith) (λ e. omega arith))
