-- `write_normal`: what was written of the text up to here.
use Rattle.schema_reader.proofs.normal_form.Writing.{WrittenTo}
use Rattle.schema_reader.proofs.normal_form.write_normal.Given as goal

abbrev pub invariant-loop-b : goal.invariant-loop-b
invariant-loop-b l = WrittenTo l.s l.initial.out l.out l.b-index l.n l.due l.run
