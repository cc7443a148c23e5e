use Rattle.extract_writer.specs.rows.Measure.{Measuring}
use Rattle.extract_writer.proofs.rows.measure.Given as goal

abbrev pub invariant-loop-r : goal.invariant-loop-r
invariant-loop-r l = Measuring l.names l.decoded l.marks l.r l.bytes l.rows
