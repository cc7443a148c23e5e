-- `resolve`: the first i names are declared and resolved.
use Rattle.schema_reader.specs.declared_names.Resolving.{ResolvedBefore}
use Rattle.schema_reader.proofs.declared_names.resolve.Given as goal

abbrev pub invariant-loop-place : goal.invariant-loop-place
invariant-loop-place l = ResolvedBefore l.s l.names l.initial.uses l.place-index l.uses
