-- The outcome of each public function of the library: refusal 1, the texts in turn, 18. What is handed in and what is lent stands beside each.
-- At exit a lent output holds its answer and then zeros, and all zeros on refusal (`columns_after`, and `cells_after` of text_spec).
use Rattle.std.specs.Prelude.{◌||◌, List, [], map, ℕ, leb, length}
use Rattle.std.proofs.Math.ListN.{get_elem?}
use Rattle.extract_spec.specs.Cut.{cut_to_word}
use Rattle.extract_spec.specs.Fields.{write_extract}
use Rattle.extract_spec.specs.Reading.{read_extract}
use Rattle.inference_spec.specs.Needed.{needed_word}
use Rattle.journal_spec.specs.Reading.{read_journal}
use Rattle.library_spec.specs.Chains.{chain}
use Rattle.library_spec.specs.Records.{schema_held, bundle_held, LentTable, table_held, table_beside}
use Rattle.library_spec.specs.Selections.{asked_paths, Selections, selections}
use Rattle.path_spec.specs.Reading.{read_bundle}
use Rattle.schema_spec.specs.Names.{Name, element, text}
use Rattle.schema_spec.specs.Reading.{read_schema}
use Rattle.schema_spec.specs.Records.{normal}
use Rattle.schema_spec.specs.Types.{types_of}
use Rattle.table_spec.specs.Columns.{Columns, Sizes, all_of_size, equal_sizes, columns_of, cells_from}
use Rattle.table_spec.specs.Nodes.{nodes_of}
use Rattle.table_spec.specs.Rows.{Row, Cells}
use Rattle.text_spec.specs.Calls.{tested, handed, in_room}
use Rattle.text_spec.specs.Cells.{too_small}
use Rattle.text_spec.specs.Limits.{max_schema_bytes, max_bundle_bytes, max_journal_bytes}
use Rattle.text_spec.specs.Lists.{part}
use Rattle.text_spec.specs.Records.{TextRecord, record_of}
use Rattle.text_spec.specs.Refusals.{Outcome, accepted, refused, and_then}

-- ---- what lent outputs hold at exit
-- a table answered in lent columns: 18 where they have too few cells
abbrev pub in_columns : Sizes → List Row → Outcome (List Row)
in_columns z rows = in_room (too_small z.numbers rows) rows

abbrev pub rows_after : {A : Type 0} → (A → List Row) → Outcome A → List Row
rows_after answer (accepted a) = answer a
rows_after answer (refused f) = []

unfoldable pub columns_after : {A : Type 0} → Sizes → (A → List Row) → Outcome A → Columns
columns_after z answer o = columns_of z (rows_after answer o)

-- a record that is handed back: "A part handed back is empty on refusal."
unfoldable pub record_after : ℕ → Outcome TextRecord → TextRecord
record_after limit (accepted r) = r
record_after limit (refused f) = record_of limit []

-- ---- reading the three texts
-- Reading a schema. Handed in: a text. Back: a record.
unfoldable pub schema_read : List ℕ → Outcome TextRecord
schema_read schema = and_then (read_schema schema) (λ s. accepted (record_of max_schema_bytes (normal schema)))

-- Reading a bundle. Handed in: a schema's record, a text. Back: a record.
unfoldable pub bundle_read : TextRecord → List ℕ → Outcome TextRecord
bundle_read schema bundle = handed (schema_held schema) (λ s. and_then (read_bundle s bundle) (λ ps. accepted (record_of max_bundle_bytes bundle)))

-- Reading a journal. Handed in: a schema's record, a text. Lent: columns.
unfoldable pub journal_read : TextRecord → List ℕ → Sizes → Outcome (List Row)
journal_read schema journal z =
    handed (schema_held schema) (λ s. tested (equal_sizes z) (and_then (read_journal max_journal_bytes s journal) (λ rows. in_columns z rows)))

-- ---- needed names and cutting
-- The needed names of a bundle, as 64 bits. Handed in: the records of a schema and a bundle.
unfoldable pub needed_names : TextRecord → TextRecord → Outcome ℕ
needed_names schema bundle = handed (schema_held schema) (λ s. handed (bundle_held s bundle) (λ ps. accepted (needed_word (types_of s) ps)))

-- Cutting a table to 64 bits. Handed in: a schema's record, a table, the bits. Lent: other columns.
unfoldable pub table_cut : TextRecord → LentTable → ℕ → Sizes → Outcome (List Row)
table_cut schema table word z =
    handed (schema_held schema) (λ s. handed (table_held s table) (λ rows. tested (equal_sizes z) (in_columns z (cut_to_word (types_of s) word rows))))

-- ---- extracts
-- Writing an extract. Handed in: a schema's record, a table and the text beside it. Lent: bytes.
unfoldable pub extract_written : TextRecord → LentTable → List ℕ → ℕ → Outcome (List ℕ)
extract_written schema table lent size =
    handed (schema_held schema) (λ s. handed (table_beside s lent table) (λ rows. in_room (too_small size (write_extract lent rows)) (write_extract lent rows)))

-- Reading an extract. Handed in: a schema's record, bytes. Lent: columns.
unfoldable pub extract_read : TextRecord → List ℕ → Sizes → Outcome (List Row)
extract_read schema extract z =
    handed (schema_held schema) (λ s. tested (equal_sizes z) (and_then (read_extract (types_of s) extract) (λ rows. in_columns z rows)))

-- ---- selecting
-- Selecting on a table. Handed in: the records of a schema and a bundle, a place in the bundle or 0, a table and the text beside it. Lent:
-- numbers and counts.
unfoldable pub nodes_selected : TextRecord → TextRecord → ℕ → LentTable → List ℕ → ℕ → ℕ → Outcome Selections
nodes_selected schema bundle place table lent items counts =
    handed (schema_held schema) (λ s.
    handed (bundle_held s bundle) (λ ps.
    tested (leb place (length ps))
    (handed (table_beside s lent table) (λ rows.
    let a = selections lent rows (asked_paths place ps) in
    in_room (too_small items a.items || too_small counts a.counts) a))))

-- ---- one row
-- what a row has of text: nothing, or where it starts, its length and its decoded length
pub data RowText : Type 0 where
  no_text : RowText
  text_at : ℕ → ℕ → ℕ → RowText

abbrev pub text_of_row : Name → Row → RowText
text_of_row (element e) r = no_text
text_of_row (text e) r = text_at r.start r.size r.decoded

-- The text of a row. Handed in: a schema's record, a table and the text beside it, a row's position.
unfoldable pub row_text : TextRecord → LentTable → List ℕ → ℕ → Outcome RowText
row_text schema table lent position =
    handed (schema_held schema) (λ s. handed (table_beside s lent table) (λ rows. handed (get_elem? rows position) (λ r. accepted (text_of_row r.name r))))

-- "The text of a row is handed back as that part of the journal": empty for an element and on refusal
abbrev pub part_of : List ℕ → RowText → List ℕ
part_of lent no_text = []
part_of lent (text_at start size decoded) = part start size lent

unfoldable pub part_after : List ℕ → Outcome RowText → List ℕ
part_after lent (accepted t) = part_of lent t
part_after lent (refused f) = []

-- The chain of tags of a row. Handed in: a schema's record, a table, a row's position. Lent: bytes.
unfoldable pub row_chain : TextRecord → LentTable → ℕ → ℕ → Outcome (List ℕ)
row_chain schema table position size =
    handed (schema_held schema) (λ s.
    handed (table_held s table) (λ rows.
    handed (get_elem? (nodes_of [] rows) position) (λ y. in_room (too_small size (chain s y)) (chain s y))))

-- ---- the same over lent row structs: a table is a slice of them, and so is a lent output
abbrev pub table_of_cells : List Cells → LentTable
table_of_cells cs =
    record {
      columns =
          record {
            numbers = map (λ c. c.number) cs;
            names = map (λ c. c.name) cs;
            parents = map (λ c. c.parent) cs;
            starts = map (λ c. c.start) cs;
            lengths = map (λ c. c.size) cs;
            decoded = map (λ c. c.decoded) cs;
          };
      count = length cs;
    }

-- so many row structs at exit: those of the columns
unfoldable pub structs_after : ℕ → Outcome (List Row) → List Cells
structs_after n o = cells_from (columns_after (all_of_size n) (λ rows. rows) o) 0 n

unfoldable pub journal_read_rows : TextRecord → List ℕ → ℕ → Outcome (List Row)
journal_read_rows schema journal n = journal_read schema journal (all_of_size n)

unfoldable pub table_cut_rows : TextRecord → List Cells → ℕ → ℕ → Outcome (List Row)
table_cut_rows schema rows word n = table_cut schema (table_of_cells rows) word (all_of_size n)

unfoldable pub nodes_selected_rows : TextRecord → TextRecord → ℕ → List Cells → List ℕ → ℕ → ℕ → Outcome Selections
nodes_selected_rows schema bundle place rows lent items counts = nodes_selected schema bundle place (table_of_cells rows) lent items counts
