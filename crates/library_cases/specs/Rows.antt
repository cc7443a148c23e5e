-- Writing, selecting and single rows of S and J, and the entries over row structs: what each function says, hands back and leaves in lent
-- outputs, on success and refused.
use Rattle.std.specs.Prelude.{List, [], ◌∷◌, ◌++◌, ℕ}
use Rattle.extract_spec.specs.Cases.Tables.{journal_j, extract_j}
use Rattle.library_cases.specs.Calls.{record_s, record_t, one_cell_short, of_refused, empty_record, table, lent_j, overcounted}
use Rattle.library_spec.specs.Cases.Edges.{two_texts}
use Rattle.library_spec.specs.Cases.Exits.{exit}
use Rattle.library_spec.specs.Cases.Hosts.{misfit}
use Rattle.library_spec.specs.Cases.Opened.{computing}
use Rattle.library_spec.specs.Cases.Questions.{Text, writes_extract, selects_nodes, gives_text, gives_chain, reads_journal_rows, cuts_rows, selects_rows, Answer, leaves, answer_to, Case, AllHold, zeros}
use Rattle.table_spec.specs.Rows.{Cells}
use Rattle.text_spec.specs.Cases.{case, answered}
use Rattle.text_spec.specs.Lists.{bytes}

-- Of a text beside a table only the ranges of text rows are judged: here 32 bytes that fail 3, then `12`.
abbrev pub beside : Text
beside = zeros 32 ++ bytes "12"

-- a range that goes past the text, and one with a byte that fails 3
abbrev pub cut_off : Text
cut_off = zeros 32 ++ bytes "1"

abbrev pub carriage_return : Text
carriage_return = zeros 32 ++ (0x31 ∷ 0x0D ∷ [])

abbrev pub the_cells : List ℕ → List ℕ → Answer
the_cells size cells = leaves (exit 0 0 (size ∷ cells ∷ []))

abbrev pub no_cells : ℕ → ℕ → ℕ → Answer
no_cells cells number place = leaves (exit number place ((0 ∷ []) ∷ zeros cells ∷ []))

abbrev pub selection : List ℕ → List ℕ → List ℕ → Answer
selection answered items counts = leaves (exit 0 0 (answered ∷ items ∷ counts ∷ []))

abbrev pub no_selection : ℕ → ℕ → ℕ → Answer
no_selection items counts number = leaves (exit number 0 (zeros 2 ∷ zeros items ∷ zeros counts ∷ []))

pub cases : List Case
cases =
    case (writes_extract record_s lent_j journal_j 64) (the_cells (62 ∷ []) (extract_j ++ zeros 2))
    ∷ case (writes_extract record_s lent_j beside 62) (the_cells (62 ∷ []) extract_j)
    ∷ case (writes_extract record_s lent_j journal_j 61) (no_cells 61 18 0)
    ∷ case (writes_extract record_s lent_j cut_off 64) (no_cells 64 1 0)
    ∷ case (writes_extract record_s lent_j carriage_return 64) (no_cells 64 1 0)
    ∷ case (writes_extract record_s (table two_texts 8) journal_j 64) (no_cells 64 1 0)
    ∷ case (writes_extract one_cell_short lent_j journal_j 64) (no_cells 64 1 0)
    -- the text 5; the parents 1 and 2 of the tiles; and both
    ∷ case (selects_nodes record_s record_t 0 lent_j journal_j 5 3) (selection (3 ∷ 2 ∷ []) (5 ∷ 1 ∷ 2 ∷ 0 ∷ 0 ∷ []) (1 ∷ 2 ∷ 0 ∷ []))
    ∷ case (selects_nodes record_s record_t 1 lent_j journal_j 1 1) (selection (1 ∷ 1 ∷ []) (5 ∷ []) (1 ∷ []))
    ∷ case (selects_nodes record_s record_t 2 lent_j beside 5 3) (selection (2 ∷ 1 ∷ []) (1 ∷ 2 ∷ 0 ∷ 0 ∷ 0 ∷ []) (2 ∷ 0 ∷ 0 ∷ []))
    ∷ case (selects_nodes record_s record_t 0 lent_j journal_j 2 3) (no_selection 2 3 18)
    ∷ case (selects_nodes record_s record_t 0 lent_j journal_j 5 1) (no_selection 5 1 18)
    ∷ case (selects_nodes record_s record_t 3 lent_j journal_j 5 3) (no_selection 5 3 1)
    ∷ case (selects_nodes record_s record_t 2 lent_j cut_off 5 3) (no_selection 5 3 1)
    ∷ case (selects_nodes record_s record_s 2 lent_j journal_j 5 3) (no_selection 5 3 1)
    ∷ case (selects_nodes empty_record record_t 2 lent_j journal_j 5 3) (no_selection 5 3 1)
    -- the text of a row: its start, its length, its decoded length and its bytes; an element has none
    ∷ case (gives_text record_s lent_j journal_j 5) (leaves (exit 0 0 ((32 ∷ 2 ∷ 2 ∷ []) ∷ bytes "12" ∷ [])))
    ∷ case (gives_text record_s lent_j journal_j 6) (leaves (exit 0 0 ([] ∷ [] ∷ [])))
    ∷ case (gives_text record_s lent_j journal_j 7) (leaves (exit 1 0 ([] ∷ [] ∷ [])))
    ∷ case (gives_text record_s lent_j cut_off 0) (leaves (exit 1 0 ([] ∷ [] ∷ [])))
    ∷ case (gives_text record_s overcounted journal_j 0) (leaves (exit 1 0 ([] ∷ [] ∷ [])))
    ∷ case (gives_text empty_record lent_j journal_j 5) (leaves (exit 1 0 ([] ∷ [] ∷ [])))
    -- the chain of a row
    ∷ case (gives_chain record_s lent_j 5 36) (the_cells (34 ∷ []) (bytes "/scan/plate/well/tile/focus/text()" ++ zeros 2))
    ∷ case (gives_chain record_s lent_j 6 16) (the_cells (16 ∷ []) (bytes "/scan/plate/tile"))
    ∷ case (gives_chain record_s lent_j 0 6) (the_cells (5 ∷ []) (bytes "/scan" ++ zeros 1))
    ∷ case (gives_chain record_s lent_j 5 33) (no_cells 33 18 0)
    ∷ case (gives_chain record_s lent_j 7 36) (no_cells 36 1 0)
    ∷ case (gives_chain record_s (table two_texts 8) 0 36) (no_cells 36 1 0)
    ∷ case (gives_chain empty_record lent_j 0 36) (no_cells 36 1 0)
    ∷ []

pub all_hold : AllHold cases
unfolding computing answer_to cases
all_hold = answered cases

-- ---- row structs: number, name, parent, start, length and decoded length of each, the lengths equal
abbrev pub cells_of : ℕ → ℕ → ℕ → ℕ → ℕ → Cells
cells_of number name parent start size = record { number = number; name = name; parent = parent; start = start; size = size; decoded = size }

abbrev pub structs_k : List Cells
structs_k = cells_of 0 0 0 0 0 ∷ cells_of 1 1 0 0 0 ∷ cells_of 2 2 1 0 0 ∷ cells_of 3 3 1 0 0 ∷ cells_of 4 4 3 0 0 ∷ cells_of 5 36 4 33 1 ∷ []

pub structs : List Case
structs =
    case (reads_journal_rows record_s (bytes "<scan><plate><well/><tile><focus>x</focus></tile></plate></scan>") 7)
    (leaves (exit 0 0
    ((6 ∷ []) ∷ (0 ∷ 0 ∷ 0 ∷ 0 ∷ 0 ∷ 0 ∷ []) ∷ (1 ∷ 1 ∷ 0 ∷ 0 ∷ 0 ∷ 0 ∷ []) ∷ (2 ∷ 2 ∷ 1 ∷ 0 ∷ 0 ∷ 0 ∷ []) ∷ (3 ∷ 3 ∷ 1 ∷ 0 ∷ 0 ∷ 0 ∷ []) ∷ (4 ∷ 4 ∷ 3 ∷ 0 ∷ 0 ∷ 0 ∷ [])
    ∷ (5 ∷ 36 ∷ 4 ∷ 33 ∷ 1 ∷ 1 ∷ []) ∷ zeros 6 ∷ [])))
    ∷ case (reads_journal_rows record_s journal_j 2) (leaves (exit 18 0 ((0 ∷ []) ∷ zeros 6 ∷ zeros 6 ∷ [])))
    ∷ case (reads_journal_rows record_s misfit 1) (leaves (exit 15 6 ((0 ∷ []) ∷ zeros 6 ∷ [])))
    ∷ case (reads_journal_rows of_refused journal_j 1) (leaves (exit 1 0 ((0 ∷ []) ∷ zeros 6 ∷ [])))
    ∷ case (cuts_rows record_s structs_k 68719476763 6)
    (leaves (exit 0 0
    ((5 ∷ []) ∷ (0 ∷ 0 ∷ 0 ∷ 0 ∷ 0 ∷ 0 ∷ []) ∷ (1 ∷ 1 ∷ 0 ∷ 0 ∷ 0 ∷ 0 ∷ []) ∷ (3 ∷ 3 ∷ 1 ∷ 0 ∷ 0 ∷ 0 ∷ []) ∷ (4 ∷ 4 ∷ 2 ∷ 0 ∷ 0 ∷ 0 ∷ []) ∷ (5 ∷ 36 ∷ 3 ∷ 33 ∷ 1 ∷ 1 ∷ []) ∷ zeros 6 ∷ [])))
    ∷ case (cuts_rows record_s structs_k 3 1) (leaves (exit 18 0 ((0 ∷ []) ∷ zeros 6 ∷ [])))
    ∷ case (cuts_rows record_s (cells_of 0 1 0 0 0 ∷ []) 27 1) (leaves (exit 1 0 ((0 ∷ []) ∷ zeros 6 ∷ [])))
    -- the text 5; the parent 1 of the tile
    ∷ case (selects_rows record_s record_t 0 structs_k (zeros 33 ++ bytes "x") 3 2) (selection (2 ∷ 2 ∷ []) (5 ∷ 1 ∷ 0 ∷ []) (1 ∷ 1 ∷ []))
    ∷ case (selects_rows record_s record_t 0 structs_k (zeros 33 ++ bytes "x") 1 2) (no_selection 1 2 18)
    ∷ case (selects_rows record_s record_t 0 structs_k (zeros 33) 3 2) (no_selection 3 2 1)
    ∷ []

pub structs-hold : AllHold structs
unfolding computing answer_to structs
structs-hold = answered structs
