-- The two functions that the host calls, on texts: making an extract, and selecting from one.
use Rattle.std.specs.Prelude.{Bool, ◌&&◌, ◌||◌, List, [], ℕ, leb, length}
use Rattle.extract_spec.specs.Cut.{cut}
use Rattle.extract_spec.specs.Fields.{write_extract}
use Rattle.extract_spec.specs.Reading.{read_extract}
use Rattle.inference_spec.specs.Needed.{needed}
use Rattle.journal_spec.specs.Reading.{read_journal}
use Rattle.library_spec.specs.Selections.{asked_paths, selections}
use Rattle.path_spec.specs.Paths.{LocationPath}
use Rattle.path_spec.specs.Reading.{read_bundle}
use Rattle.schema_spec.specs.Reading.{read_schema}
use Rattle.schema_spec.specs.Schemas.{Schema}
use Rattle.schema_spec.specs.Types.{types_of}
use Rattle.table_spec.specs.Columns.{Sizes, equal_sizes}
use Rattle.table_spec.specs.Rows.{Row}
use Rattle.text_spec.specs.Calls.{tested, in_room}
use Rattle.text_spec.specs.Cells.{too_small}
use Rattle.text_spec.specs.Limits.{max_journal_bytes, max_paths}
use Rattle.text_spec.specs.Refusals.{Outcome, accepted, refused, and_then, number_of}

-- an answer: the table of the journal or of the extract; the extract's bytes, or the selected numbers with their counts
pub record HostAnswer : Type 0 where
  pub rows : List Row
  pub items : List ℕ
  pub counts : List ℕ

abbrev pub host_answer : List Row → List ℕ → List ℕ → HostAnswer
host_answer rows items counts = record { rows = rows; items = items; counts = counts }

-- how many cells are lent for each part of the answer
pub record Lent : Type 0 where
  pub columns : Sizes
  pub items : ℕ
  pub counts : ℕ

-- 18: one of them has too few
abbrev pub in_lent : Lent → HostAnswer → Outcome HostAnswer
in_lent l a = in_room (too_small l.columns.numbers a.rows || (too_small l.items a.items || too_small l.counts a.counts)) a

-- Demand 2: the extract made holds the journal's rows cut to the bundle's needed names.
unfoldable pub extract_of : Schema → List (LocationPath ℕ) → List ℕ → List Row → List ℕ
extract_of s ps journal rows = write_extract journal (cut (needed (types_of s) ps) rows)

-- Making an extract. Handed in: the texts of a schema, a bundle and a journal. Lent: columns, and bytes; no counts are answered.
unfoldable pub make_extract : List ℕ → List ℕ → List ℕ → Lent → Outcome HostAnswer
make_extract schema bundle journal l =
    tested (equal_sizes l.columns)
    (and_then (read_schema schema) (λ s.
    and_then (read_bundle s bundle) (λ ps.
    and_then (read_journal max_journal_bytes s journal) (λ rows.
    in_lent l (host_answer rows (extract_of s ps journal rows) [])))))

-- the paths of a bundle under a schema
unfoldable pub bundle_paths : List ℕ → List ℕ → Outcome (List (LocationPath ℕ))
bundle_paths schema bundle = and_then (read_schema schema) (λ s. read_bundle s bundle)

-- a place that the bundle has, or 0; of a bundle that is refused, one that some bundle has
abbrev pub in_range : ℕ → Outcome (List (LocationPath ℕ)) → Bool
in_range place (accepted ps) = leb place (length ps)
in_range place (refused f) = leb place max_paths

-- Selecting from an extract. Handed in: the texts of a schema and a bundle, a place in the bundle or 0, an extract. Lent: columns, numbers
-- and counts. "On an extract a path selects what it selects on the extract's rows, read with that schema."
unfoldable pub select_from : List ℕ → List ℕ → ℕ → List ℕ → Lent → Outcome HostAnswer
select_from schema bundle place extract l =
    tested (equal_sizes l.columns && in_range place (bundle_paths schema bundle))
    (and_then (read_schema schema) (λ s.
    and_then (read_bundle s bundle) (λ ps.
    and_then (read_extract (types_of s) extract) (λ rows.
    let a = selections extract rows (asked_paths place ps) in
    in_lent l (host_answer rows a.items a.counts)))))

-- what goes out by value: the refusal's number (0 for none) and place, and how many rows, items and counts are answered
pub record Result : Type 0 where
  pub number : ℕ
  pub place : ℕ
  pub rows : ℕ
  pub items : ℕ
  pub counts : ℕ

unfoldable pub result_of : Outcome HostAnswer → Result
result_of (accepted a) = record { number = 0; place = 0; rows = length a.rows; items = length a.items; counts = length a.counts }
result_of (refused f) = record { number = number_of f.reason; place = f.place; rows = 0; items = 0; counts = 0 }
