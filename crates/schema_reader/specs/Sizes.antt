-- A schema's record that passes its test is not too long.
use Rattle.std.specs.Prelude.{true, ◌&&◌, List, ◌≡◌, ℕ, ◌≤◌, leb, take}
use Rattle.std.proofs.Common.{leb→le}
use Rattle.schema_reader.specs.Records.{passes_record}
use Rattle.schema_spec.specs.Records.{is_schema_record}
use Rattle.text_laws.specs.Tests.{passed, and_cases}
use Rattle.text_spec.specs.Cells.{padded}
use Rattle.text_spec.specs.Limits.{max_schema_bytes}
use Rattle.text_spec.specs.Lists.{same_bytes}

pub record-low : (cells : List ℕ) (size : ℕ) → passes_record cells size ≡ true → size ≤ max_schema_bytes
record-low cells size e =
    let a = leb size max_schema_bytes in
    let b = same_bytes cells (padded max_schema_bytes (take size cells)) in
    leb→le size max_schema_bytes (and_cases a b (and_cases (a && b) (is_schema_record (take size cells)) (passed e)).0).0
