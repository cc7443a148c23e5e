-- When refusals 1 and 18 apply, and what each public function answers: no reader is mentioned.
use Rattle.std.specs.Prelude.{Bool, ◌⊎◌, ◌≡◌, ℕ, suc, ◌<◌, ◌≤◌, T, length}
use mathlib.Core.List.{List, [], ◌∷◌, ◌++◌, Memᴰ}
use Rattle.std.proofs.Math.Option.{some}
use Rattle.std.proofs.Math.ListN.{get_elem?}
use Rattle.extract_spec.specs.Conditions.{ExtractApplies, ExtractGives}
use Rattle.extract_spec.specs.Cut.{cut, cut_to_word}
use Rattle.extract_spec.specs.Fields.{write_extract}
use Rattle.inference_spec.specs.Needed.{needed, needed_word}
use Rattle.journal_spec.specs.Conditions.{JournalApplies, JournalGives}
use Rattle.library_spec.specs.Calls.{RowText, text_of_row}
use Rattle.library_spec.specs.Chains.{chain}
use Rattle.library_spec.specs.Hosts.{HostAnswer, host_answer, Lent, extract_of}
use Rattle.library_spec.specs.Listing.{FilesRead, node_line, header, refused_line}
use Rattle.library_spec.specs.Records.{LentTable}
use Rattle.library_spec.specs.Selections.{asked_paths, Selections, selections}
use Rattle.path_spec.specs.Conditions.{BundleApplies, BundleGives}
use Rattle.path_spec.specs.Paths.{LocationPath}
use Rattle.path_spec.specs.Selection.{Selected}
use Rattle.schema_spec.specs.Conditions.{SchemaApplies, SchemaGives}
use Rattle.schema_spec.specs.Records.{normal}
use Rattle.schema_spec.specs.Schemas.{Schema}
use Rattle.schema_spec.specs.Types.{types_of}
use Rattle.table_spec.specs.Columns.{Sizes, all_of_size, sizes_of, cells_from}
use Rattle.table_spec.specs.Conditions.{RowAt, WellFormed, WellFormedBeside}
use Rattle.table_spec.specs.Nodes.{Node, nodes_of}
use Rattle.table_spec.specs.Rows.{Row, rows_of}
use Rattle.text_spec.specs.Calls.{Tested, Handed, InTurn, InRoom, Answers}
use Rattle.text_spec.specs.Limits.{max_schema_bytes, max_bundle_bytes, max_journal_bytes, max_paths, listing_journal_bytes, listing_rows}
use Rattle.text_spec.specs.Lists.{filter_by}
use Rattle.text_spec.specs.Records.{TextRecord, record_of}
use Rattle.text_spec.specs.Refusals.{Refusal, Outcome, accepted, refused, Judged}

-- Texts as they are judged, and texts that are accepted with what they give.
abbrev pub SchemaJudged : List ℕ → Outcome Schema → Type 0
SchemaJudged text o = Judged (SchemaApplies text) (SchemaGives text) o

abbrev pub BundleJudged : Schema → List ℕ → Outcome (List (LocationPath ℕ)) → Type 0
BundleJudged s text o = Judged (BundleApplies s text) (BundleGives s text) o

abbrev pub JournalJudged : ℕ → Schema → List ℕ → Outcome (List Row) → Type 0
JournalJudged limit s text o = Judged (JournalApplies limit s text) (JournalGives s text) o

abbrev pub ExtractJudged : Schema → List ℕ → Outcome (List Row) → Type 0
ExtractJudged s text o = Judged (ExtractApplies (types_of s) text) (ExtractGives (types_of s) text) o

abbrev pub SchemaTaken : List ℕ → Schema → Type 0
SchemaTaken text s = SchemaJudged text (accepted s)

abbrev pub BundleTaken : Schema → List ℕ → List (LocationPath ℕ) → Type 0
BundleTaken s text ps = BundleJudged s text (accepted ps)

abbrev pub JournalTaken : ℕ → Schema → List ℕ → List Row → Type 0
JournalTaken limit s text rows = JournalJudged limit s text (accepted rows)

-- ---- refusal 1
-- "one that its reader can't produce": the records that some accepted text gives, with what they hold
pub data SchemaRecord : TextRecord → Schema → Type 0 where
  of-schema : {s : Schema} (text : List ℕ) → SchemaTaken text s → SchemaRecord (record_of max_schema_bytes (normal text)) s

pub data BundleRecord (s : Schema) : TextRecord → List (LocationPath ℕ) → Type 0 where
  of-bundle : {ps : List (LocationPath ℕ)} (text : List ℕ) → BundleTaken s text ps → BundleRecord s (record_of max_bundle_bytes text) ps

pub data EqualSizes : Sizes → Type 0 where
  equal-sizes : {n : ℕ} → EqualSizes (all_of_size n)

-- lent columns whose first cells are these rows
pub record RowsLent (t : LentTable) (rows : List Row) : Type 0 where
  pub equal : EqualSizes (sizes_of t.columns)
  pub enough : t.count ≤ length t.columns.numbers
  pub named : rows_of (cells_from t.columns 0 t.count) ≡ some rows

-- a well-formed table, and one with the text beside it
pub record TableHanded (s : Schema) (t : LentTable) (rows : List Row) : Type 0 where
  pub lent : RowsLent t rows
  pub well_formed : WellFormed (types_of s) rows

pub record TableBeside (s : Schema) (text : List ℕ) (t : LentTable) (rows : List Row) : Type 0 where
  pub lent : RowsLent t rows
  pub well_formed : WellFormedBeside (types_of s) text rows

-- ---- what each public function answers, in the words of Calls (text_spec)
-- a table in lent columns
abbrev pub InColumns : Sizes → List Row → Outcome (List Row) → Type 0
InColumns z rows o = InRoom (z.numbers < length rows) rows o

abbrev pub ReadsSchema : List ℕ → Outcome TextRecord → Type 0
ReadsSchema text o = InTurn (SchemaJudged text) (λ s. Answers (record_of max_schema_bytes (normal text))) o

abbrev pub ReadsBundle : TextRecord → List ℕ → Outcome TextRecord → Type 0
ReadsBundle schema text o = Handed (SchemaRecord schema) (λ s. InTurn (BundleJudged s text) (λ ps. Answers (record_of max_bundle_bytes text))) o

abbrev pub ReadsJournal : TextRecord → List ℕ → Sizes → Outcome (List Row) → Type 0
ReadsJournal schema journal z o =
    Handed (SchemaRecord schema) (λ s. Tested (EqualSizes z) (InTurn (JournalJudged max_journal_bytes s journal) (λ rows. InColumns z rows))) o

abbrev pub GivesNeeded : TextRecord → TextRecord → Outcome ℕ → Type 0
GivesNeeded schema bundle o = Handed (SchemaRecord schema) (λ s. Handed (BundleRecord s bundle) (λ ps. Answers (needed_word (types_of s) ps))) o

abbrev pub CutsTable : TextRecord → LentTable → ℕ → Sizes → Outcome (List Row) → Type 0
CutsTable schema table word z o =
    Handed (SchemaRecord schema) (λ s. Handed (TableHanded s table) (λ rows. Tested (EqualSizes z) (InColumns z (cut_to_word (types_of s) word rows)))) o

abbrev pub WritesExtract : TextRecord → LentTable → List ℕ → ℕ → Outcome (List ℕ) → Type 0
WritesExtract schema table lent size o =
    Handed (SchemaRecord schema)
    (λ s. Handed (TableBeside s lent table) (λ rows. InRoom (size < length (write_extract lent rows)) (write_extract lent rows))) o

abbrev pub ReadsExtract : TextRecord → List ℕ → Sizes → Outcome (List Row) → Type 0
ReadsExtract schema extract z o = Handed (SchemaRecord schema) (λ s. Tested (EqualSizes z) (InTurn (ExtractJudged s extract) (λ rows. InColumns z rows))) o

-- 18 for selected numbers and their counts
abbrev pub TooFewSelections : ℕ → ℕ → Selections → Type 0
TooFewSelections items counts a = (items < length a.items) ⊎ (counts < length a.counts)

abbrev pub SelectsNodes : TextRecord → TextRecord → ℕ → LentTable → List ℕ → ℕ → ℕ → Outcome Selections → Type 0
SelectsNodes schema bundle place table lent items counts o =
    Handed (SchemaRecord schema)
    (λ s.
    Handed (BundleRecord s bundle)
    (λ ps.
    Tested (place ≤ length ps)
    (Handed (TableBeside s lent table)
    (λ rows.
    InRoom (TooFewSelections items counts (selections lent rows (asked_paths place ps))) (selections lent rows (asked_paths place ps)))))) o

abbrev pub GivesText : TextRecord → LentTable → List ℕ → ℕ → Outcome RowText → Type 0
GivesText schema table lent position o =
    Handed (SchemaRecord schema)
    (λ s. Handed (TableBeside s lent table) (λ rows. Handed (RowAt rows position) (λ r. Answers (text_of_row r.name r)))) o

-- the node of the row at a position
abbrev pub NodeAt : List Row → ℕ → Node → Type 0
NodeAt rows position y = get_elem? (nodes_of [] rows) position ≡ some y

abbrev pub GivesChain : TextRecord → LentTable → ℕ → ℕ → Outcome (List ℕ) → Type 0
GivesChain schema table position size o =
    Handed (SchemaRecord schema)
    (λ s. Handed (TableHanded s table) (λ rows. Handed (NodeAt rows position) (λ y. InRoom (size < length (chain s y)) (chain s y)))) o

-- ---- the host's two functions
-- 18. "A lent output has fewer cells than the answer takes."
abbrev pub TooFewCells : Lent → HostAnswer → Type 0
TooFewCells l a = (l.columns.numbers < length a.rows) ⊎ ((l.items < length a.items) ⊎ (l.counts < length a.counts))

abbrev pub InLent : Lent → HostAnswer → Outcome HostAnswer → Type 0
InLent l a o = InRoom (TooFewCells l a) a o

abbrev pub Makes : List ℕ → List ℕ → List ℕ → Lent → Outcome HostAnswer → Type 0
Makes schema bundle journal l o =
    Tested (EqualSizes l.columns)
    (InTurn (SchemaJudged schema)
    (λ s.
    InTurn (BundleJudged s bundle)
    (λ ps. InTurn (JournalJudged max_journal_bytes s journal) (λ rows. InLent l (host_answer rows (extract_of s ps journal rows) []))))) o

-- A place of 9 or more no bundle has; where schema and bundle are accepted, one past the bundle's paths is out of range, too.
pub data OutOfRange (schema bundle : List ℕ) (place : ℕ) : Type 0 where
  in-no-bundle : max_paths < place → OutOfRange schema bundle place
  not-here : {s : Schema} {ps : List (LocationPath ℕ)} → SchemaTaken schema s → BundleTaken s bundle ps → length ps < place → OutOfRange schema bundle place

abbrev pub Selects : List ℕ → List ℕ → ℕ → List ℕ → Lent → Outcome HostAnswer → Type 0
Selects schema bundle place extract l o =
    Tested (EqualSizes l.columns × (OutOfRange schema bundle place → ⊥))
    (InTurn (SchemaJudged schema)
    (λ s.
    InTurn (BundleJudged s bundle)
    (λ ps.
    InTurn (ExtractJudged s extract)
    (λ rows.
    InLent l (host_answer rows (selections extract rows (asked_paths place ps)).items (selections extract rows (asked_paths place ps)).counts))))) o

-- the nodes that some path of the bundle selects, in document order and once each
pub record Chosen (doc : List Node) (ps : List (LocationPath ℕ)) (ys : List Node) : Type 0 where
  pub test : Node → Bool
  pub listed : ys ≡ filter_by test doc
  pub sound : (y : Node) → Memᴰ y doc → T (test y) → (p : LocationPath ℕ) × Memᴰ p ps × Selected doc p y
  pub complete : (y : Node) (p : LocationPath ℕ) → Memᴰ p ps → Selected doc p y → T (test y)

-- "place in the bundle (from 1) of the first path that selects it"
pub record FirstPath (doc : List Node) (ps : List (LocationPath ℕ)) (y : Node) (place : ℕ) : Type 0 where
  pub before : List (LocationPath ℕ)
  pub path : LocationPath ℕ
  pub after : List (LocationPath ℕ)
  pub joined : ps ≡ before ++ (path ∷ after)
  pub placed : place ≡ suc (length before)
  pub selects : Selected doc path y
  pub none_before : (p : LocationPath ℕ) → Memᴰ p before → Selected doc p y → ⊥

-- "Then per selected node, in document order: number, place in the bundle .., and the chain of tags"
pub data Lines (s : Schema) (doc : List Node) (ps : List (LocationPath ℕ)) : List Node → List ℕ → Type 0 where
  no_lines : Lines s doc ps [] []
  next-line : {y : Node} {ys : List Node} {rest : List ℕ} (place : ℕ) → FirstPath doc ps y place → Lines s doc ps ys rest
      → Lines s doc ps (y ∷ ys) (node_line s y place ++ rest)

-- the header with the lengths of the three lists, and then the lines
pub data Lists (journal : List ℕ) (f : FilesRead) : List ℕ → Type 0 where
  lists : {ys : List Node} {lines : List ℕ} → Chosen (nodes_of journal f.rows) f.paths ys → Lines f.schema (nodes_of journal f.rows) f.paths ys lines
      → Lists journal f (header (length ys) (length (cut (needed (types_of f.schema) f.paths) f.rows)) (length f.rows) ++ lines)

-- the three files in turn, and 18 only where all three are accepted
abbrev pub FilesJudged : List ℕ → List ℕ → List ℕ → Outcome FilesRead → Type 0
FilesJudged schema bundle journal o =
    InTurn (SchemaJudged schema)
    (λ s.
    InTurn (BundleJudged s bundle)
    (λ ps.
    InTurn (JournalJudged listing_journal_bytes s journal)
    (λ rows. InRoom (listing_rows < length rows) (record { schema = s; paths = ps; rows = rows })))) o

-- `listing`: "the first file refused prints `refused N at P` alone"
pub data Prints (schema bundle journal : List ℕ) : List ℕ → Type 0 where
  prints-refusal : {f : Refusal} → FilesJudged schema bundle journal (refused f) → Prints schema bundle journal (refused_line f)
  prints-lists : {f : FilesRead} {out : List ℕ} → FilesJudged schema bundle journal (accepted f) → Lists journal f out → Prints schema bundle journal out
