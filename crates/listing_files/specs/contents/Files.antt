-- What `listing` makes of three files, by the columns of the journal's table: printed, it is the definition's listing.
use Rattle.std.specs.Prelude.{List, ◌++◌, ◌≡◌, ℕ, ◌≤◌, ◌<◌, Result, Ok, Err, length, take}
use Rattle.axis_passes.specs.rows.Rows.{TextColumns}
use Rattle.cells.specs.columns.Columns.{EqualColumns}
use Rattle.cells.specs.declared.columns.Columns.{Columns as Table}
use Rattle.chains.specs.handed.Answers.{sizes_at}
use Rattle.chains.specs.tags.Chains.{chain_at, chain_size, NamesAt, SizePass}
use Rattle.compiled_paths.specs.Paths.{paths_in, Shaped}
use Rattle.compiled_schema.specs.Compiled.{CompiledOf}
use Rattle.hosts.specs.declared.texts.Texts.{Texts}
use Rattle.kept_rows.specs.Joined.{rank}
use Rattle.kept_rows.specs.Kept.{in_set, kept_marks, KeptColumns}
use Rattle.library_spec.specs.Listing.{header, refused_line, listing}
use Rattle.listing_files.specs.declared.contents.Listed.{Listed}
use Rattle.listing_files.specs.laws.Rows.{row_lines}
use Rattle.listing_text.specs.lines.Lines.{row_line}
use Rattle.names.specs.declared.NameSet.{NameSet}
use Rattle.needed_names.specs.sets.Needs.{NeededIn}
use Rattle.schema_spec.specs.Records.{schema_in}
use Rattle.selection.specs.first_paths.Firsts.{FirstPaths, selected_count}
use Rattle.table_laws.specs.Columns.{TestedColumns}
use Rattle.table_spec.specs.Columns.{Columns}
use Rattle.text.specs.declared.refusals.Refusal.{Refusal}
use Rattle.text.specs.refusals.Refusals.{refusal_in}
use Rattle.text_spec.specs.Limits.{listing_rows}

-- ---- definitions
-- what is printed of accepted files: the header and the lines of the rows
unfoldable pub printed_of : Listed → List ℕ → List ℕ → List ℕ → List ℕ → List ℕ → List ℕ
printed_of r schema numbers codes ps firsts =
    header r.selected r.kept r.rows ++ row_lines (row_line numbers firsts (chain_at schema r.names (sizes_at schema r.names) codes ps)) r.rows 0

-- a line has room in 2,098 bytes
pub record LinesFit (schema codes ps : List ℕ) (r : Listed) : Type 0 where
  pub few : r.rows ≤ listing_rows
  pub named : NamesAt schema r.names (sizes_at schema r.names)
  pub table : (row : ℕ) → row < r.rows → SizePass (sizes_at schema r.names) codes ps row
  pub short : (row : ℕ) → row < r.rows → chain_size (sizes_at schema r.names) codes ps row ≤ 2055

-- accepted files: what is printed of the first rows in the columns, which stay equal and have room for them
pub record ListsRows (schema bundle journal : List ℕ) (d : Columns) (firsts : List ℕ) (r : Listed) : Type 0 where
  pub whole : listing schema bundle journal ≡ printed_of r schema (take r.rows d.numbers) (take r.rows d.names) (take r.rows d.parents) (take r.rows firsts)
  pub fits : LinesFit schema (take r.rows d.names) (take r.rows d.parents) r
  pub equal : EqualColumns d
  pub room : r.rows ≤ length d.numbers

-- what is listed, or the refusal, which is the only line
abbrev pub ListsBy : List ℕ → List ℕ → List ℕ → Columns → List ℕ → Result Listed Refusal → Type 0
ListsBy schema bundle journal d firsts (Ok r) = ListsRows schema bundle journal d firsts r
ListsBy schema bundle journal d firsts (Err f) = listing schema bundle journal ≡ refused_line (refusal_in f)

pub record ListsAs (schema bundle journal : List ℕ) (d : Columns) (firsts : List ℕ) (r : Result Listed Refusal) : Type 0 where
  pub says : ListsBy schema bundle journal d firsts r

-- ---- what is asked
pub record FilesLent (c : Columns) (firsts : List ℕ) : Type 0 where
  pub equal : EqualColumns c
  pub lent : length c.numbers ≡ listing_rows
  pub cells : length firsts ≡ listing_rows

pub record RowsAsked (schema : List ℕ) (t : Texts) (c : Table) (firsts : List ℕ) : Type 0 where
  pub compiled : CompiledOf schema (schema_in schema) t.schema
  pub shaped : Shaped t.paths
  pub kept : KeptColumns c.names.now c.parents.now
  pub columns : TestedColumns c.parents.now c.names.now c.parents.now
  pub cells : length firsts ≡ length c.parents.now
  pub listed : length c.parents.now ≤ listing_rows

-- each row has a text beside the table
abbrev pub TextsIn : Table → List ℕ → Type 0
TextsIn c journal = TextColumns c.parents.now c.starts.now c.lengths.now c.decoded.now journal

-- ---- what is taken from the rows
pub record ListedRows (t : Texts) (c : Table) (firsts : List ℕ) (r : Listed) : Type 0 where
  pub rows_are : r.rows ≡ length c.parents.now
  pub selected-is : r.selected ≡ selected_count firsts
  pub set : NameSet
  pub set-needed : NeededIn t.schema t.paths set
  pub kept-is : r.kept ≡ rank (kept_marks (in_set set) c.names.now c.parents.now) (length (kept_marks (in_set set) c.names.now c.parents.now))
  pub noted : FirstPaths c.parents.now c.names.now (paths_in t.paths) firsts
  pub names-are : r.names ≡ t.schema.names
