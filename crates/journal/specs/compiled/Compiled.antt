-- Reading a journal under a compiled schema: the library's outcome for the schema that was accepted.
use Rattle.std.specs.Prelude.{List, ◌≡◌, ℕ, Result}
use Rattle.cells.specs.verdicts.Verdicts.{verdict}
use Rattle.journal_builder.specs.declared.journal_schema.JournalSchema.{JournalSchema}
use Rattle.journal_builder.specs.journal_schema.Schemas.{ReadFrom}
use Rattle.journal_reader.specs.event_loop.Judging.{outcome}
use Rattle.journal.specs.compiled.Tables.{TableRead}
use Rattle.library_spec.specs.Calls.{columns_after}
use Rattle.schema_spec.specs.Reading.{read_schema}
use Rattle.schema_spec.specs.Records.{schema_in}
use Rattle.table_spec.specs.Columns.{Columns, sizes_of}
use Rattle.text.specs.declared.refusals.Refusal.{Refusal}
use Rattle.text_spec.specs.Refusals.{accepted}

-- columns c lent, columns d left: the answer and the rows, where the schema text is accepted
pub record CompiledRead (schema text : List ℕ) (limit : ℕ) (c d : Columns) (r : Result ℕ Refusal) : Type 0 where
  pub answer : read_schema schema ≡ accepted (schema_in schema) → r ≡ verdict (outcome (schema_in schema) text limit (sizes_of c))
  pub cells : read_schema schema ≡ accepted (schema_in schema) → d ≡ columns_after (sizes_of c) (λ rows. rows) (outcome (schema_in schema) text limit (sizes_of c))

pub compiled-read : {schema text : List ℕ} {limit : ℕ} {t : JournalSchema} {c d : Columns} {r : Result ℕ Refusal} → ReadFrom schema t → TableRead t text limit c d r
    → CompiledRead schema text limit c d r
compiled-read {schema} f w =
    record { answer = λ read. w.answer (schema_in schema) (f.schema read); cells = λ read. w.cells (schema_in schema) (f.schema read) }
