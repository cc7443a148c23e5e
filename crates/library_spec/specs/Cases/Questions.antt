-- What a case asks of the definitions, and what they answer.
use Rattle.std.specs.Prelude.{List, [], ◌∷◌, map, ℕ}
use Rattle.extract_spec.specs.Cut.{cut}
use Rattle.inference_spec.specs.Cases.Needed.{paths_read, names_needed}
use Rattle.inference_spec.specs.Needed.{needed}
use Rattle.journal_spec.specs.Reading.{read_journal}
use Rattle.library_spec.specs.Calls as calls
use Rattle.library_spec.specs.Cases.Exits.{Exit, host_exit, record_exit, rows_exit, structs_exit, word_exit, bytes_exit, selections_exit, text_exit}
use Rattle.library_spec.specs.Hosts.{Lent, extract_of, make_extract, select_from}
use Rattle.library_spec.specs.Listing.{listing}
use Rattle.library_spec.specs.Records.{LentTable, table_beside}
use Rattle.path_spec.specs.Reading.{read_bundle}
use Rattle.path_spec.specs.Selection.{select_rows}
use Rattle.schema_spec.specs.Names.{Names}
use Rattle.schema_spec.specs.Reading.{read_schema}
use Rattle.schema_spec.specs.Records.{schema_in}
use Rattle.schema_spec.specs.Types.{types_of}
use Rattle.table_spec.specs.Columns.{Columns, Sizes, all_of_size}
use Rattle.table_spec.specs.Rows.{Row, Cells}
use Rattle.text_spec.specs.Calls.{handed}
use Rattle.text_spec.specs.Cases as cases
use Rattle.text_spec.specs.Cases.{Judgement, judgement_of, copies}
use Rattle.text_spec.specs.Limits.{max_journal_bytes}
use Rattle.text_spec.specs.Records.{TextRecord}
use Rattle.text_spec.specs.Refusals.{accepted, result_or}

abbrev pub Text : Type 0
Text = List ℕ

pub data Question : Type 0 where
  -- after a schema text: is the schema, the bundle, the journal accepted
  schema_read : Text → Question
  bundle_read : Text → Text → Question
  journal_read : Text → Text → Question
  -- does a table with so many rows and a text beside it pass refusal 1
  table_lent : Text → Columns → ℕ → Text → Question
  -- the names that a bundle needs
  names : Text → Text → Question
  -- the nodes that each path of a bundle selects in a journal
  nodes : Text → Text → Text → Question
  -- the numbers of the rows kept, and the extract made
  rows_kept : Text → Text → Text → Question
  extract_made : Text → Text → Text → Question
  -- what `listing` prints
  printed : Text → Text → Text → Question
  -- a call of a public function: what it is handed, and how many cells are lent
  makes : Text → Text → Text → Lent → Question
  selects : Text → Text → ℕ → Text → Lent → Question
  reads_schema : Text → Question
  reads_bundle : TextRecord → Text → Question
  reads_journal : TextRecord → Text → Sizes → Question
  gives_needed : TextRecord → TextRecord → Question
  cuts_table : TextRecord → LentTable → ℕ → Sizes → Question
  writes_extract : TextRecord → LentTable → Text → ℕ → Question
  reads_extract : TextRecord → Text → Sizes → Question
  selects_nodes : TextRecord → TextRecord → ℕ → LentTable → Text → ℕ → ℕ → Question
  gives_text : TextRecord → LentTable → Text → ℕ → Question
  gives_chain : TextRecord → LentTable → ℕ → ℕ → Question
  -- the same over row structs
  reads_journal_rows : TextRecord → Text → ℕ → Question
  cuts_rows : TextRecord → List Cells → ℕ → ℕ → Question
  selects_rows : TextRecord → TextRecord → ℕ → List Cells → Text → ℕ → ℕ → Question

pub data Answer : Type 0 where
  -- of a text, or of a table
  says : Judgement → Answer
  the_names : Names → Answer
  the_numbers : List (List ℕ) → Answer
  the_bytes : List ℕ → Answer
  -- what a call says and leaves
  leaves : Exit → Answer

abbrev pub rows_read : Text → Text → List Row
rows_read schema journal = result_or [] (read_journal max_journal_bytes (schema_in schema) journal)

unfoldable pub answer_to : Question → Answer
answer_to (schema_read s) = says (judgement_of (read_schema s))
answer_to (bundle_read s b) = says (judgement_of (read_bundle (schema_in s) b))
answer_to (journal_read s j) = says (judgement_of (read_journal max_journal_bytes (schema_in s) j))
answer_to (table_lent s c n lent) = says (judgement_of (handed (table_beside (schema_in s) lent (record { columns = c; count = n })) (λ rows. accepted rows)))
answer_to (names s b) = the_names (names_needed s b)
answer_to (nodes s b j) = the_numbers (map (select_rows j (rows_read s j)) (paths_read s b))
answer_to (rows_kept s b j) = the_numbers (map (λ r. r.number) (cut (needed (types_of (schema_in s)) (paths_read s b)) (rows_read s j)) ∷ [])
answer_to (extract_made s b j) = the_bytes (extract_of (schema_in s) (paths_read s b) j (rows_read s j))
answer_to (printed s b j) = the_bytes (listing s b j)
answer_to (makes s b j l) = leaves (host_exit l (make_extract s b j l))
answer_to (selects s b place x l) = leaves (host_exit l (select_from s b place x l))
-- a record has as many cells as its text may have bytes
answer_to (reads_schema s) = leaves (record_exit 8192 (calls.schema_read s))
answer_to (reads_bundle s b) = leaves (record_exit 4104 (calls.bundle_read s b))
answer_to (reads_journal s j z) = leaves (rows_exit z (calls.journal_read s j z))
answer_to (gives_needed s b) = leaves (word_exit (calls.needed_names s b))
answer_to (cuts_table s t word z) = leaves (rows_exit z (calls.table_cut s t word z))
answer_to (writes_extract s t lent n) = leaves (bytes_exit n (calls.extract_written s t lent n))
answer_to (reads_extract s x z) = leaves (rows_exit z (calls.extract_read s x z))
answer_to (selects_nodes s b place t lent items counts) = leaves (selections_exit items counts (calls.nodes_selected s b place t lent items counts))
answer_to (gives_text s t lent i) = leaves (text_exit lent (calls.row_text s t lent i))
answer_to (gives_chain s t i n) = leaves (bytes_exit n (calls.row_chain s t i n))
answer_to (reads_journal_rows s j n) = leaves (structs_exit n (calls.journal_read_rows s j n))
answer_to (cuts_rows s rows word n) = leaves (structs_exit n (calls.table_cut_rows s rows word n))
answer_to (selects_rows s b place rows lent items counts) = leaves (selections_exit items counts (calls.nodes_selected_rows s b place rows lent items counts))

abbrev pub Case : Type 0
Case = cases.Case Question Answer

abbrev pub AllHold : List Case → Type 0
AllHold cs = cases.AllHold answer_to cs

abbrev pub zeros : ℕ → List ℕ
zeros n = copies n (0 ∷ [])

-- so many cells lent for each part of a host's answer
abbrev pub lend : ℕ → ℕ → ℕ → Lent
lend rows items counts = record { columns = all_of_size rows; items = items; counts = counts }
