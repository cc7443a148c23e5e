-- What the bundle reader answers and hands back, in the definition's terms.
use Rattle.std.specs.Prelude.{Bool, ◌&&◌, List, ◌≡◌, ℕ, ◌≤◌, leb, length, take, replicate}
use Rattle.bundle.specs.Judging.{sized}
use Rattle.bundle.specs.declared.reader.Bundle.{Bundle}
use Rattle.bundle.specs.declared.reader.BundleRead.{BundleRead}
use Rattle.path_spec.specs.Paths.{LocationPath}
use Rattle.path_spec.specs.Reading.{read_bundle, is_bundle_record}
use Rattle.schema_reader.specs.Records.{passes_record}
use Rattle.schema_spec.specs.Records.{schema_in, record_by}
use Rattle.schema_spec.specs.Schemas.{Schema}
use Rattle.text.specs.refusals.Refusals.{outcome_of}
use Rattle.text_spec.specs.Calls.{tested}
use Rattle.text_spec.specs.Cells.{padded}
use Rattle.text_spec.specs.Limits.{max_bundle_bytes}
use Rattle.text_spec.specs.Lists.{same_bytes}
use Rattle.text_spec.specs.Refusals.{Outcome}

-- the bundle that is handed back on refusal
abbrev pub empty_bundle : Bundle
empty_bundle = record { bytes = replicate max_bundle_bytes 0; len = 0 }

-- a text that is not too long
pub record Recorded (text : List ℕ) (b : Bundle) : Type 0 where
  pub bytes : length text ≤ max_bundle_bytes → b.bytes ≡ padded max_bundle_bytes text
  pub size : length text ≤ max_bundle_bytes → b.len ≡ length text

-- refusal 1 of the schema's record, then the bundle text under the schema in it
abbrev pub read_under : List ℕ → ℕ → List ℕ → Outcome (List (LocationPath ℕ))
read_under cells size text = tested (passes_record cells size) (read_bundle (schema_in (take size cells)) text)

-- reading a text answers so: the outcome, and the record, which is the empty one on refusal
pub record ReadAs (cells : List ℕ) (n : ℕ) (text : List ℕ) (r : BundleRead) : Type 0 where
  pub outcome : outcome_of r.judgement ≡ sized (read_under cells n text)
  pub bytes : r.bundle.bytes ≡ padded max_bundle_bytes (record_by (read_under cells n text) text)
  pub size : r.bundle.len ≡ length (record_by (read_under cells n text) text)

-- Refusal 1: a record in cells, with its length, is one that an accepted text gives under the schema.
abbrev pub passes_bundle_record : Schema → List ℕ → ℕ → Bool
passes_bundle_record s cells size = (leb size max_bundle_bytes && same_bytes cells (padded max_bundle_bytes (take size cells))) && is_bundle_record s (take size cells)
