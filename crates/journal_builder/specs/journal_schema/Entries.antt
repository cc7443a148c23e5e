-- The entries of a compiled schema have cells for all positions.
use Rattle.std.specs.Prelude.{ℕ, ◌≤◌, ◌<◌}
use Rattle.compiled_schema.specs.declared.CompiledSchema.{CompiledSchema}
use Rattle.compiled_schema.specs.entries.Entries.{entry_at}
use Rattle.text_spec.specs.Limits.{max_declarations, max_model_names}

-- no model has more positions than an entry has cells
abbrev pub Sized : CompiledSchema → Type 0
Sized t = (a : ℕ) → a < max_declarations → (entry_at t.entries a).size ≤ max_model_names
