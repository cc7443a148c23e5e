-- `all_elements`: the entries of the declarations that were read are filled.
use Rattle.compiled_schema.proofs.entries.Filling.{Filled}
use Rattle.compiled_schema.specs.element_entry.Reading.{AtDeclaration}
use Rattle.schema_spec.specs.Records.{schema_in}
use Rattle.compiled_schema.proofs.entries.all_elements.Given as goal

abbrev pub invariant-loop-d : goal.invariant-loop-d
invariant-loop-d l = AtDeclaration l.s l.uses l.d l.n l.at × Filled (schema_in l.s) l.d l.entries l.«holds»
