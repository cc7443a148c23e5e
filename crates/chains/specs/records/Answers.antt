-- The chain of tags of a row of a table that is handed in with a schema's record: the library's outcome.
use Rattle.std.specs.Prelude.{true, false, ◌&&◌, List, ◌≡◌, ℕ, Result, leb, take}
use Rattle.cells.specs.verdicts.Verdicts.{AnsweredBytes}
use Rattle.chains.specs.handed.Answers.{chain_held}
use Rattle.handed_tables.specs.calls.Calls.{record-refused, record-held}
use Rattle.library_spec.specs.Calls.{row_chain}
use Rattle.library_spec.specs.Records.{LentTable, passes_schema}
use Rattle.schema_laws.specs.Records.{record-accepted}
use Rattle.schema_reader.specs.Records.{passes_record}
use Rattle.schema_spec.specs.Reading.{read_schema}
use Rattle.schema_spec.specs.Records.{schema_in, is_schema_record}
use Rattle.text.specs.declared.refusals.Refusal.{Refusal}
use Rattle.text_laws.specs.Tests.{and_cases, passed}
use Rattle.text_spec.specs.Cells.{padded}
use Rattle.text_spec.specs.Limits.{max_schema_bytes}
use Rattle.text_spec.specs.Lists.{same_bytes}
use Rattle.text_spec.specs.Records.{TextRecord, text_in}
use Rattle.text_spec.specs.Refusals.{accepted, refused, at, bad_record}

module _ (schema : TextRecord) (t : LentTable) (position size : ℕ) where
  pub no_record : passes_schema schema ≡ false → row_chain schema t position size ≡ refused (at bad_record 0)
  unfolding row_chain
  no_record e = record-refused schema _ e

  pub by-record : passes_schema schema ≡ true → (r : Result ℕ Refusal) (x : List ℕ) → AnsweredBytes (chain_held (schema_in (text_in schema)) t position size) size r x
      → AnsweredBytes (row_chain schema t position size) size r x
  unfolding row_chain chain_held
  by-record e r x w = rw (record-held schema _ e) w

-- the text in a record that has passed its test
pub record-read : (cells : List ℕ) (size : ℕ) → passes_record cells size ≡ true → read_schema (take size cells) ≡ accepted (schema_in (take size cells))
record-read cells size e =
    record-accepted (take size cells)
    (and_cases (leb size max_schema_bytes && same_bytes cells (padded max_schema_bytes (take size cells))) (is_schema_record (take size cells)) (passed e)).1
