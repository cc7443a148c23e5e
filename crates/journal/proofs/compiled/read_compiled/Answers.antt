use Rattle.journal.specs.compiled.Compiled.{compiled-read}
use Rattle.journal.proofs.compiled.read_compiled.Goals as goal

pub returns-clause-read : goal.returns-clause-read
returns-clause-read c = compiled-read c.new-schema.ensures c.read_table.ensures.read
