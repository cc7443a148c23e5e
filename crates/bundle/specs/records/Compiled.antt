-- The compiled paths of a bundle text that is judged under a compiled schema are in the shape that selecting and the needed names ask for.
use Rattle.std.specs.Prelude.{List, ℕ, IfOk, Result}
use Rattle.bundle.specs.Judging.{JudgedUnder}
use Rattle.compiled_paths.specs.Paths.{Shaped}
use Rattle.compiled_paths.specs.declared.CompiledPaths.{CompiledPaths}
use Rattle.compiled_schema.specs.Compiled.{CompiledOf}
use Rattle.compiled_schema.specs.Places.{names_at}
use Rattle.compiled_schema.specs.declared.CompiledSchema.{CompiledSchema}
use Rattle.schema_spec.specs.Records.{schema_in}
use Rattle.text.specs.declared.refusals.Refusal.{Refusal}

module _ (schema text : List ℕ) (t : CompiledSchema) (made : CompiledOf schema (schema_in schema) t) (r : Result CompiledPaths Refusal) (judged : JudgedUnder (names_at schema t) text r) where
  pub judged-shaped : IfOk r Shaped
  judged-shaped = (judged.under (schema_in schema) made.named).shaped
