use Rattle.std.proofs.Common.{List, ℕ}
use Rattle.journal_builder.specs.element_names.Names.{NamesOf, NoneNamed}
use Rattle.schema_spec.specs.Schemas.{Schema}
use Rattle.text.specs.name_words.Words.{Spells}
use Rattle.journal_builder.proofs.element_names.ElementNames.scan.Given as goal

abbrev pub invariant-loop-e : goal.invariant-loop-e
invariant-loop-e l = (s : Schema) (n : List ℕ) → NamesOf s l.self → Spells l.name n → NoneNamed s n l.e
