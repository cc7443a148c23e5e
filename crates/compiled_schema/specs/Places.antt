-- The elements of a compiled schema: no more than a schema may have, and a place of each one's name.
use Rattle.std.specs.Prelude.{List, map, ◌≡◌, ℕ, ◌≤◌, length, take}
use Rattle.std.proofs.Common.{ap, ◌∙◌, arith, length-take}
use Rattle.compiled_schema.specs.Compiled.{CompiledOf}
use Rattle.compiled_schema.specs.declared.CompiledSchema.{CompiledSchema}
use Rattle.schema.specs.Judging.{declared_at}
use Rattle.schema_laws.specs.Accepted.{schema_in-length}
use Rattle.schema_spec.specs.Machine.{parse}
use Rattle.schema_spec.specs.Records.{schema_in}
use Rattle.text_laws.specs.Cells.{padded-length}
use Rattle.text_spec.specs.Cells.{padded}
use Rattle.text_spec.specs.Limits.{max_declarations}
use Rattle.text_spec.specs.Scans.{name_at}

-- whatever the text, there are no more elements than a schema may have
pub compiled-few : (text : List ℕ) (t : CompiledSchema) → CompiledOf text (schema_in text) t → t.relations.count ≤ max_declarations
compiled-few text t made =
    let few = schema_in-length text in
    let n = made.counted in
    omega arith

-- the names of the compiled elements
abbrev pub names_at : List ℕ → CompiledSchema → List (List ℕ)
names_at schema t = map (name_at schema) (take t.relations.count t.names)

sized : (n : ℕ) (cells xs : List ℕ) → cells ≡ padded n xs → length cells ≡ n
sized n cells xs e = ap length e ∙ padded-length n xs

-- there is a place for each of its elements
module _ (schema : List ℕ) (t : CompiledSchema) (made : CompiledOf schema (schema_in schema) t) where
  pub names-inside : t.relations.count ≤ length t.names
  names-inside =
      let few = compiled-few schema t made in
      let size = sized max_declarations t.names (take (length (schema_in schema)) (declared_at (parse schema))) made.places in
      omega arith

  pub names-taken : t.relations.count ≡ length (take t.relations.count t.names)
  names-taken =
      let inside = names-inside in
      let size = length-take t.relations.count t.names in
      omega arith

  pub names-few : length (take t.relations.count t.names) ≤ max_declarations
  names-few =
      let few = compiled-few schema t made in
      omega (arith, names-taken)
