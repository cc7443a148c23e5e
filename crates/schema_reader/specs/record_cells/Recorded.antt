-- The schema that a text is read into: its normal form in cells, and the empty one on refusal.
use Rattle.std.specs.Prelude.{List, ◌≡◌, ℕ, ◌≤◌, length, Result, Ok, Err}
use Rattle.schema.specs.Judging.{empty_schema}
use Rattle.schema.specs.declared.Schema.{Schema}
use Rattle.schema_spec.specs.Records.{normal}
use Rattle.text.specs.declared.refusals.Refusal.{Refusal}
use Rattle.text_spec.specs.Cells.{padded}
use Rattle.text_spec.specs.Limits.{max_schema_bytes}

-- the normal form of a text that is not too long
pub record Recorded (text : List ℕ) (s : Schema) : Type 0 where
  pub bytes : length text ≤ max_schema_bytes → s.bytes ≡ padded max_schema_bytes (normal text)
  pub size : length text ≤ max_schema_bytes → s.len ≡ length (normal text)

-- the schema that was read, or the empty one
abbrev pub handed_back : Result ℕ Refusal → Schema → Schema
handed_back (Ok n) s = s
handed_back (Err f) s = empty_schema

-- the same of the schema of a text
abbrev pub HandedBack : List ℕ → Result ℕ Refusal → Schema → Type 0
HandedBack text (Ok n) s = Recorded text s
HandedBack text (Err f) s = s ≡ empty_schema
