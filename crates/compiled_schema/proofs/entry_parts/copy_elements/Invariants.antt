-- `copy_elements`: what is still to be copied stands from i on.
use Rattle.std.proofs.Common.{◌≡◌, drop}
use Rattle.std.proofs.lemmas.List.Edits.{sets}
use Rattle.compiled_schema.proofs.entry_parts.copy_elements.Given as goal

abbrev pub invariant-loop-i : goal.invariant-loop-i
invariant-loop-i l = sets l.elements l.i (drop l.i l.model) ≡ sets l.initial.elements 0 l.model
