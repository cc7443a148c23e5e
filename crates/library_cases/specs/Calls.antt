-- Reading, needed names and cutting on S and J: what each function says, hands back and leaves in lent outputs, on success and refused. Lent
-- outputs are larger than the answers, so that the zeros show.
use Rattle.std.specs.Prelude.{List, [], ◌∷◌, ◌++◌, ℕ}
use Prim.Native.String.{String}
use Rattle.extract_spec.specs.Cases.Tables.{schema_s, journal_j, extract_j, no_rows}
use Rattle.library_spec.specs.Cases.Edges.{table_j, two_texts}
use Rattle.library_spec.specs.Cases.Exits.{exit}
use Rattle.library_spec.specs.Cases.Hosts.{bundle_p, bundle_t, undeclared, misfit, no_extract}
use Rattle.library_spec.specs.Cases.Opened.{computing}
use Rattle.library_spec.specs.Cases.Questions.{Text, reads_schema, reads_bundle, reads_journal, gives_needed, cuts_table, reads_extract, Answer, leaves, answer_to, Case, AllHold, zeros}
use Rattle.library_spec.specs.Records.{LentTable}
use Rattle.table_spec.specs.Columns.{Columns, columns, Sizes, all_of_size}
use Rattle.text_spec.specs.Cases.{case, answered, copies, joined}
use Rattle.text_spec.specs.Lists.{bytes}
use Rattle.text_spec.specs.Records.{TextRecord}

-- ---- records: a text, and zeros up to 8,192 cells for a schema and 4,104 for a bundle
abbrev pub text_record : Text → ℕ → ℕ → TextRecord
text_record text size more = record { cells = text ++ zeros more; size = size }

abbrev pub record_s : TextRecord
record_s = text_record schema_s 126 8066

abbrev pub record_t : TextRecord
record_t = text_record bundle_t 51 4053

abbrev pub record_p : TextRecord
record_p = text_record bundle_p 39 4065

-- no records of schemas: with blanks besides the required ones, with a cell past the length, with a cell too few or too many, of a text that is
-- refused, and the empty one
abbrev pub with_blanks : TextRecord
with_blanks = text_record (bytes "<!ELEMENT a  EMPTY>") 19 8173

abbrev pub with_cell_past : TextRecord
with_cell_past = text_record (schema_s ++ (1 ∷ [])) 126 8065

abbrev pub one_cell_short : TextRecord
one_cell_short = text_record schema_s 126 8065

abbrev pub one_cell_long : TextRecord
one_cell_long = text_record schema_s 126 8067

abbrev pub of_refused : TextRecord
of_refused = text_record (bytes "<!ELEMENT a EMPTY><!ELEMENT a EMPTY>") 36 8156

abbrev pub empty_record : TextRecord
empty_record = text_record [] 0 8192

-- A schema of 8,192 bytes, which fills the cells of its record: names of 31 bytes, three declarations of 64 names with 2,092 bytes each, and one of
-- 42 names and of 16 with an indicator, with 1,916 bytes.
abbrev pub long_name : String → Text
long_name last = copies 30 (bytes "n") ++ bytes last

abbrev pub long_names : ℕ → Text
long_names n = joined n (bytes "|") (long_name "a")

abbrev pub declaring : String → Text → Text
declaring last names = bytes "<!ELEMENT " ++ (long_name last ++ (bytes " (" ++ (names ++ bytes ")>")))

abbrev pub full_text : Text
full_text =
    declaring "a" (long_names 64)
    ++ (declaring "b" (long_names 64)
    ++ (declaring "c" (long_names 64)
    ++ declaring "d" (long_names 42 ++ copies 16 (bytes "|" ++ (long_name "a" ++ bytes "?")))))

-- what is handed back, or nothing of it
abbrev pub back : List ℕ → List ℕ → Answer
back size cells = leaves (exit 0 0 (size ∷ cells ∷ []))

abbrev pub no_record : ℕ → ℕ → ℕ → Answer
no_record cells number place = leaves (exit number place ((0 ∷ []) ∷ zeros cells ∷ []))

pub records : List Case
records =
    -- the two required blanks of a declaration stay, each as one space
    case (reads_schema (bytes " <!ELEMENT  a\t\n( b , b? )* >\n<!ELEMENT b ( #PCDATA ) >\n"))
    (back (42 ∷ []) (bytes "<!ELEMENT a (b,b?)*><!ELEMENT b (#PCDATA)>" ++ zeros 8150))
    ∷ case (reads_schema schema_s) (back (126 ∷ []) (schema_s ++ zeros 8066))
    ∷ case (reads_schema (bytes "<!ELEMENT a (b)>")) (no_record 8192 7 13)
    ∷ case (reads_schema []) (no_record 8192 2 0)
    ∷ case (reads_bundle record_s bundle_t) (back (51 ∷ []) (bundle_t ++ zeros 4053))
    ∷ case (reads_bundle record_s undeclared) (no_record 4104 10 18)
    ∷ case (reads_bundle record_s []) (no_record 4104 2 0)
    -- 1, before the text
    ∷ case (reads_bundle with_blanks []) (no_record 4104 1 0)
    ∷ case (reads_bundle with_cell_past bundle_t) (no_record 4104 1 0)
    ∷ case (reads_bundle one_cell_short bundle_t) (no_record 4104 1 0)
    ∷ case (reads_bundle one_cell_long bundle_t) (no_record 4104 1 0)
    ∷ case (reads_bundle of_refused bundle_t) (no_record 4104 1 0)
    ∷ case (reads_bundle empty_record bundle_t) (no_record 4104 1 0)
    -- all cells full, and a size past them
    ∷ case (reads_bundle (text_record full_text 8192 0) (bytes "self::node()\n")) (back (13 ∷ []) (bytes "self::node()\n" ++ zeros 4091))
    ∷ case (reads_bundle (text_record full_text 8193 0) (bytes "self::node()\n")) (no_record 4104 1 0)
    -- needed names: bits 0, 1, 3 and 4; bits 0 to 4 and 36; a name that this schema lacks is 1
    ∷ case (gives_needed record_s record_p) (leaves (exit 0 0 ((27 ∷ []) ∷ [])))
    ∷ case (gives_needed record_s record_t) (leaves (exit 0 0 ((68719476767 ∷ []) ∷ [])))
    ∷ case (gives_needed record_s (text_record (bytes "self::cell\n") 11 4093)) (leaves (exit 1 0 ([] ∷ [])))
    ∷ case (gives_needed record_s (text_record bundle_p 39 4064)) (leaves (exit 1 0 ([] ∷ [])))
    ∷ case (gives_needed of_refused record_p) (leaves (exit 1 0 ([] ∷ [])))
    ∷ []

pub records-hold : AllHold records
unfolding computing answer_to records
records-hold = answered records

-- ---- tables
abbrev pub table : Columns → ℕ → LentTable
table columns count = record { columns = columns; count = count }

-- J's table, and a cell of each column that is no row
abbrev pub lent_j : LentTable
lent_j =
    table
    (columns (0 ∷ 1 ∷ 2 ∷ 3 ∷ 4 ∷ 5 ∷ 6 ∷ 9 ∷ []) (0 ∷ 1 ∷ 2 ∷ 3 ∷ 4 ∷ 36 ∷ 3 ∷ 64 ∷ []) (0 ∷ 0 ∷ 1 ∷ 2 ∷ 3 ∷ 4 ∷ 1 ∷ 9 ∷ [])
    (0 ∷ 0 ∷ 0 ∷ 0 ∷ 0 ∷ 32 ∷ 0 ∷ 9 ∷ []) (0 ∷ 0 ∷ 0 ∷ 0 ∷ 0 ∷ 2 ∷ 0 ∷ 9 ∷ []) (0 ∷ 0 ∷ 0 ∷ 0 ∷ 0 ∷ 2 ∷ 0 ∷ 9 ∷ [])) 7

-- tables that are refused by 1: two text rows of one element, more rows than cells, columns of unequal length, a code that no name has
abbrev pub overcounted : LentTable
overcounted = table table_j 8

abbrev pub unequal : LentTable
unequal = table (columns (0 ∷ 1 ∷ []) (0 ∷ 1 ∷ []) (0 ∷ 0 ∷ []) (0 ∷ 0 ∷ []) (0 ∷ 0 ∷ 0 ∷ []) (0 ∷ 0 ∷ [])) 2

abbrev pub last_unequal : LentTable
last_unequal = table (columns (0 ∷ 1 ∷ []) (0 ∷ 1 ∷ []) (0 ∷ 0 ∷ []) (0 ∷ 0 ∷ []) (0 ∷ 0 ∷ []) (0 ∷ [])) 2

abbrev pub nameless : LentTable
nameless = table (columns (0 ∷ 1 ∷ []) (0 ∷ 64 ∷ []) (0 ∷ 0 ∷ []) (0 ∷ 0 ∷ []) (0 ∷ 0 ∷ []) (0 ∷ 0 ∷ [])) 2

-- six rows, the text at 33 and of the two lengths given
abbrev pub table_k : ℕ → ℕ → LentTable
table_k size decoded =
    table
    (columns (0 ∷ 1 ∷ 2 ∷ 3 ∷ 4 ∷ 5 ∷ []) (0 ∷ 1 ∷ 2 ∷ 3 ∷ 4 ∷ 36 ∷ []) (0 ∷ 0 ∷ 1 ∷ 1 ∷ 3 ∷ 4 ∷ []) (0 ∷ 0 ∷ 0 ∷ 0 ∷ 0 ∷ 33 ∷ []) (0 ∷ 0 ∷ 0 ∷ 0 ∷ 0 ∷ size ∷ [])
    (0 ∷ 0 ∷ 0 ∷ 0 ∷ 0 ∷ decoded ∷ [])) 6

-- `<scan><plate><well/><tile><focus>x</focus></tile></plate></scan>`
abbrev pub lent_k : LentTable
lent_k = table_k 1 1

-- rows answered in columns
abbrev pub in_columns : ℕ → List ℕ → List ℕ → List ℕ → List ℕ → List ℕ → List ℕ → Answer
in_columns count numbers names parents starts lengths decoded = leaves (exit 0 0 ((count ∷ []) ∷ numbers ∷ names ∷ parents ∷ starts ∷ lengths ∷ decoded ∷ []))

abbrev pub no_columns : Sizes → ℕ → ℕ → Answer
no_columns z number place =
    leaves (exit number place ((0 ∷ []) ∷ zeros z.numbers ∷ zeros z.names ∷ zeros z.parents ∷ zeros z.starts ∷ zeros z.lengths ∷ zeros z.decoded ∷ []))

abbrev pub one_less : Sizes
one_less = record { numbers = 9; names = 9; parents = 9; starts = 8; lengths = 9; decoded = 9 }

abbrev pub last_less : Sizes
last_less = record { numbers = 9; names = 9; parents = 9; starts = 9; lengths = 9; decoded = 8 }

-- J's table in nine cells, the text at the start given
abbrev pub in_nine : ℕ → Answer
in_nine start =
    in_columns 7 (0 ∷ 1 ∷ 2 ∷ 3 ∷ 4 ∷ 5 ∷ 6 ∷ 0 ∷ 0 ∷ []) (0 ∷ 1 ∷ 2 ∷ 3 ∷ 4 ∷ 36 ∷ 3 ∷ 0 ∷ 0 ∷ []) (0 ∷ 0 ∷ 1 ∷ 2 ∷ 3 ∷ 4 ∷ 1 ∷ 0 ∷ 0 ∷ [])
    (0 ∷ 0 ∷ 0 ∷ 0 ∷ 0 ∷ start ∷ 0 ∷ 0 ∷ 0 ∷ []) (0 ∷ 0 ∷ 0 ∷ 0 ∷ 0 ∷ 2 ∷ 0 ∷ 0 ∷ 0 ∷ []) (0 ∷ 0 ∷ 0 ∷ 0 ∷ 0 ∷ 2 ∷ 0 ∷ 0 ∷ 0 ∷ [])

pub tables : List Case
tables =
    case (reads_journal record_s journal_j (all_of_size 9)) (in_nine 32)
    ∷ case (reads_journal record_s journal_j (all_of_size 6)) (no_columns (all_of_size 6) 18 0)
    ∷ case (reads_journal record_s misfit (all_of_size 0)) (no_columns (all_of_size 0) 15 6)
    ∷ case (reads_journal record_s [] one_less) (no_columns one_less 1 0)
    ∷ case (reads_journal record_s [] last_less) (no_columns last_less 1 0)
    ∷ case (reads_journal empty_record [] (all_of_size 9)) (no_columns (all_of_size 9) 1 0)
    -- cut to scan, plate, tile and focus; bits 5, 32 and 63 mean nothing
    ∷ case (cuts_table record_s lent_j 27 (all_of_size 4)) (in_columns 3 (0 ∷ 1 ∷ 6 ∷ 0 ∷ []) (0 ∷ 1 ∷ 3 ∷ 0 ∷ []) (0 ∷ 0 ∷ 1 ∷ 0 ∷ []) (zeros 4) (zeros 4) (zeros 4))
    ∷ case (cuts_table record_s lent_j 9223372041149743163 (all_of_size 3)) (in_columns 3 (0 ∷ 1 ∷ 6 ∷ []) (0 ∷ 1 ∷ 3 ∷ []) (0 ∷ 0 ∷ 1 ∷ []) (zeros 3) (zeros 3) (zeros 3))
    -- bit 36 too, of a table in which the cut row stands before its parents
    ∷ case (cuts_table record_s lent_k 68719476763 (all_of_size 6))
    (in_columns 5 (0 ∷ 1 ∷ 3 ∷ 4 ∷ 5 ∷ 0 ∷ []) (0 ∷ 1 ∷ 3 ∷ 4 ∷ 36 ∷ 0 ∷ []) (0 ∷ 0 ∷ 1 ∷ 2 ∷ 3 ∷ 0 ∷ []) (0 ∷ 0 ∷ 0 ∷ 0 ∷ 33 ∷ 0 ∷ []) (0 ∷ 0 ∷ 0 ∷ 0 ∷ 1 ∷ 0 ∷ []) (0 ∷ 0 ∷ 0 ∷ 0 ∷ 1 ∷ 0 ∷ []))
    -- with no text beside it, a text's decoded length is 1 to its raw length
    ∷ case (cuts_table record_s (table_k 2 1) 68719476763 (all_of_size 5))
    (in_columns 5 (0 ∷ 1 ∷ 3 ∷ 4 ∷ 5 ∷ []) (0 ∷ 1 ∷ 3 ∷ 4 ∷ 36 ∷ []) (0 ∷ 0 ∷ 1 ∷ 2 ∷ 3 ∷ []) (0 ∷ 0 ∷ 0 ∷ 0 ∷ 33 ∷ []) (0 ∷ 0 ∷ 0 ∷ 0 ∷ 2 ∷ []) (0 ∷ 0 ∷ 0 ∷ 0 ∷ 1 ∷ []))
    ∷ case (cuts_table record_s (table_k 2 0) 68719476763 (all_of_size 5)) (no_columns (all_of_size 5) 1 0)
    ∷ case (cuts_table record_s (table_k 2 3) 68719476763 (all_of_size 5)) (no_columns (all_of_size 5) 1 0)
    ∷ case (cuts_table record_s lent_j 26 (all_of_size 1)) (in_columns 0 (zeros 1) (zeros 1) (zeros 1) (zeros 1) (zeros 1) (zeros 1))
    ∷ case (cuts_table record_s lent_j 27 (all_of_size 2)) (no_columns (all_of_size 2) 18 0)
    ∷ case (cuts_table record_s lent_j 27 one_less) (no_columns one_less 1 0)
    ∷ case (cuts_table record_s (table two_texts 8) 27 (all_of_size 9)) (no_columns (all_of_size 9) 1 0)
    ∷ case (cuts_table record_s overcounted 27 (all_of_size 9)) (no_columns (all_of_size 9) 1 0)
    ∷ case (cuts_table record_s unequal 27 (all_of_size 9)) (no_columns (all_of_size 9) 1 0)
    ∷ case (cuts_table record_s last_unequal 27 (all_of_size 9)) (no_columns (all_of_size 9) 1 0)
    ∷ case (cuts_table record_s nameless 27 (all_of_size 9)) (no_columns (all_of_size 9) 1 0)
    ∷ case (cuts_table of_refused lent_j 27 (all_of_size 9)) (no_columns (all_of_size 9) 1 0)
    -- an extract's text starts at its bytes there
    ∷ case (reads_extract record_s extract_j (all_of_size 9)) (in_nine 47)
    ∷ case (reads_extract record_s no_rows (all_of_size 0)) (no_columns (all_of_size 0) 0 0)
    ∷ case (reads_extract record_s extract_j (all_of_size 6)) (no_columns (all_of_size 6) 18 0)
    ∷ case (reads_extract record_s no_extract (all_of_size 0)) (no_columns (all_of_size 0) 17 0)
    ∷ case (reads_extract record_s [] (all_of_size 9)) (no_columns (all_of_size 9) 2 0)
    ∷ case (reads_extract record_s extract_j one_less) (no_columns one_less 1 0)
    ∷ case (reads_extract record_s no_extract one_less) (no_columns one_less 1 0)
    ∷ case (reads_extract with_cell_past extract_j (all_of_size 9)) (no_columns (all_of_size 9) 1 0)
    ∷ []

pub tables-hold : AllHold tables
unfolding computing answer_to tables
tables-hold = answered tables
