-- `CompiledSchema::empty` meets its contract.
use Rattle.compiled_schema.proofs.Whole.{empty-compiled}
use Rattle.compiled_schema.proofs.CompiledSchema.empty.Goals as goal

pub returns : goal.returns
returns c = λ text. empty-compiled c.empty.result c.empty.ensures c.empty-2.result c.empty-2.ensures c.of.result c.of.ensures.counted c.of.ensures.held c.of.ensures.beneath text
