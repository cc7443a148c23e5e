-- The two host functions on S and J: their results, the six columns, items and counts at exit. Columns, items and counts are lent larger than
-- the answers, so that the zeros show.
use Rattle.std.specs.Prelude.{List, [], ◌∷◌, ◌++◌, ℕ}
use Rattle.extract_spec.specs.Cases.Tables.{schema_s, journal_j, extract_p, extract_j, extract_of_root, no_rows}
use Rattle.library_spec.specs.Cases.Exits.{exit}
use Rattle.library_spec.specs.Cases.Opened.{computing}
use Rattle.library_spec.specs.Cases.Questions.{Text, makes, selects, Answer, leaves, answer_to, Case, AllHold, zeros, lend}
use Rattle.library_spec.specs.Hosts.{Lent}
use Rattle.text_spec.specs.Cases.{case, answered}
use Rattle.text_spec.specs.Lists.{bytes}

-- Making. The fourth path of document 01: it needs scan, plate, tile and focus, and of J's rows 0, 1 and 6 are kept.
abbrev pub bundle_p : Text
bundle_p = bytes "child::plate/child::tile[child::focus]\n"

-- Selecting. The first path selects the text 5; the second the parents of the tiles 3 and 6, which are 2 and 1. Together they need every name.
abbrev pub bundle_t : Text
bundle_t = bytes "descendant::text()\ndescendant::tile/parent::node()\n"

-- the rows of J in nine cells, its text at the start given, with so many answered of each part and with items and counts
abbrev pub rows_of_j : ℕ → List ℕ → List ℕ → List ℕ → Answer
rows_of_j start answered items counts =
    leaves (exit 0 0
    (answered
    ∷ (0 ∷ 1 ∷ 2 ∷ 3 ∷ 4 ∷ 5 ∷ 6 ∷ 0 ∷ 0 ∷ [])
    ∷ (0 ∷ 1 ∷ 2 ∷ 3 ∷ 4 ∷ 36 ∷ 3 ∷ 0 ∷ 0 ∷ [])
    ∷ (0 ∷ 0 ∷ 1 ∷ 2 ∷ 3 ∷ 4 ∷ 1 ∷ 0 ∷ 0 ∷ [])
    ∷ (0 ∷ 0 ∷ 0 ∷ 0 ∷ 0 ∷ start ∷ 0 ∷ 0 ∷ 0 ∷ [])
    ∷ (0 ∷ 0 ∷ 0 ∷ 0 ∷ 0 ∷ 2 ∷ 0 ∷ 0 ∷ 0 ∷ [])
    ∷ (0 ∷ 0 ∷ 0 ∷ 0 ∷ 0 ∷ 2 ∷ 0 ∷ 0 ∷ 0 ∷ [])
    ∷ items ∷ counts ∷ []))

-- nothing is answered, and every cell is 0
abbrev pub nothing : ℕ → ℕ → Lent → Answer
nothing number place l =
    leaves (exit number place
    (zeros 3
    ∷ zeros l.columns.numbers ∷ zeros l.columns.names ∷ zeros l.columns.parents ∷ zeros l.columns.starts ∷ zeros l.columns.lengths
    ∷ zeros l.columns.decoded
    ∷ zeros l.items ∷ zeros l.counts ∷ []))

abbrev pub sizes : ℕ → ℕ → ℕ → ℕ → ℕ → ℕ → Lent
sizes numbers names parents starts lengths decoded =
    record { columns = record { numbers = numbers; names = names; parents = parents; starts = starts; lengths = lengths; decoded = decoded }; items = 31; counts = 3 }

-- a call that is refused
abbrev pub refused_making : Text → Text → Text → Lent → ℕ → ℕ → Case
refused_making schema bundle journal l number place = case (makes schema bundle journal l) (nothing number place l)

abbrev pub refused_selecting : Text → Text → ℕ → Text → Lent → ℕ → ℕ → Case
refused_selecting schema bundle asked extract l number place = case (selects schema bundle asked extract l) (nothing number place l)

-- texts that are refused: 3 at 6, 6 at 28, 10 at 18, 15 at 6 under S, 17
abbrev pub foreign : Text
foreign = bytes "<scan>" ++ (0x7F ∷ [])

abbrev pub declared_twice : Text
declared_twice = bytes "<!ELEMENT a EMPTY><!ELEMENT a EMPTY>"

abbrev pub undeclared : Text
undeclared = bytes "self::scan\nchild::cell\n"

abbrev pub misfit : Text
misfit = bytes "<scan><plate><focus>1</focus></plate></scan>"

abbrev pub no_extract : Text
no_extract = bytes "x"

pub making : List Case
making =
    -- rows are those of the whole journal, not the kept ones
    case (makes schema_s bundle_p journal_j (lend 9 31 2)) (rows_of_j 32 (7 ∷ 29 ∷ 0 ∷ []) (extract_p ++ zeros 2) (zeros 2))
    ∷ case (makes schema_s (bytes "self::plate\n") journal_j (lend 9 8 0)) (rows_of_j 32 (7 ∷ 5 ∷ 0 ∷ []) (no_rows ++ zeros 3) [])
    ∷ case (makes schema_s bundle_t journal_j (lend 9 63 0)) (rows_of_j 32 (7 ∷ 62 ∷ 0 ∷ []) (extract_j ++ zeros 1) [])
    -- just enough cells, and one too few for rows or for items
    ∷ case (makes schema_s bundle_p (bytes "<scan/>") (lend 1 13 0))
    (leaves (exit 0 0 ((1 ∷ 13 ∷ 0 ∷ []) ∷ zeros 1 ∷ zeros 1 ∷ zeros 1 ∷ zeros 1 ∷ zeros 1 ∷ zeros 1
    ∷ extract_of_root ∷ [] ∷ [])))
    ∷ refused_making schema_s bundle_p (bytes "<scan/>") (lend 0 13 0) 18 0
    ∷ refused_making schema_s bundle_p (bytes "<scan/>") (lend 1 12 0) 18 0
    ∷ refused_making schema_s bundle_p journal_j (lend 6 31 2) 18 0
    ∷ refused_making schema_s bundle_p journal_j (lend 9 28 2) 18 0
    -- 1: columns of unequal length, before any text
    ∷ refused_making [] [] [] (sizes 9 8 9 9 9 9) 1 0
    ∷ refused_making schema_s bundle_p journal_j (sizes 9 9 8 9 9 9) 1 0
    ∷ refused_making schema_s bundle_p journal_j (sizes 9 9 9 10 9 9) 1 0
    ∷ refused_making schema_s bundle_p journal_j (sizes 9 9 9 9 0 9) 1 0
    ∷ refused_making schema_s bundle_p journal_j (sizes 9 9 9 9 9 8) 1 0
    ∷ refused_making schema_s bundle_p journal_j (sizes 8 9 9 9 9 9) 1 0
    -- the texts in turn, the first that is refused
    ∷ refused_making [] undeclared misfit (lend 9 31 2) 2 0
    ∷ refused_making foreign undeclared misfit (lend 9 31 2) 3 6
    ∷ refused_making declared_twice [] [] (lend 9 31 2) 6 28
    ∷ refused_making schema_s [] misfit (lend 9 31 2) 2 0
    ∷ refused_making schema_s undeclared [] (lend 9 31 2) 10 18
    ∷ refused_making schema_s bundle_p [] (lend 9 31 2) 2 0
    ∷ refused_making schema_s bundle_p foreign (lend 9 31 2) 3 6
    ∷ refused_making schema_s bundle_p misfit (lend 0 0 0) 15 6
    ∷ []

pub selecting : List Case
selecting =
    -- all paths: their selections joined, and how many each selects; then each path by its place
    case (selects schema_s bundle_t 0 extract_j (lend 9 5 3)) (rows_of_j 47 (7 ∷ 3 ∷ 2 ∷ []) (5 ∷ 1 ∷ 2 ∷ 0 ∷ 0 ∷ []) (1 ∷ 2 ∷ 0 ∷ []))
    ∷ case (selects schema_s bundle_t 1 extract_j (lend 9 5 3)) (rows_of_j 47 (7 ∷ 1 ∷ 1 ∷ []) (5 ∷ 0 ∷ 0 ∷ 0 ∷ 0 ∷ []) (1 ∷ 0 ∷ 0 ∷ []))
    ∷ case (selects schema_s bundle_t 2 extract_j (lend 9 5 3)) (rows_of_j 47 (7 ∷ 2 ∷ 1 ∷ []) (1 ∷ 2 ∷ 0 ∷ 0 ∷ 0 ∷ []) (2 ∷ 0 ∷ 0 ∷ []))
    -- nodes are given by their numbers: the tile 6 is the third row of the extract of rows 0, 1 and 6; a path that selects nothing counts 0
    ∷ case (selects schema_s (bytes "self::plate\nchild::plate/child::tile\n") 0 extract_p (lend 4 2 2))
    (leaves (exit 0 0 ((3 ∷ 1 ∷ 2 ∷ []) ∷ (0 ∷ 1 ∷ 6 ∷ 0 ∷ []) ∷ (0 ∷ 1 ∷ 3 ∷ 0 ∷ []) ∷ (0 ∷ 0 ∷ 1 ∷ 0 ∷ []) ∷ zeros 4 ∷ zeros 4 ∷ zeros 4 ∷ (6 ∷ 0 ∷ []) ∷ (0 ∷ 1 ∷ []) ∷ [])))
    -- "On an empty table nothing is selected."
    ∷ case (selects schema_s bundle_t 0 no_rows (lend 1 1 3))
    (leaves (exit 0 0 ((0 ∷ 0 ∷ 2 ∷ []) ∷ zeros 1 ∷ zeros 1 ∷ zeros 1 ∷ zeros 1 ∷ zeros 1 ∷ zeros 1 ∷ zeros 1 ∷ zeros 3 ∷ [])))
    -- just enough cells, and one too few for rows, items or counts
    ∷ case (selects schema_s (bytes "self::scan\nself::plate\n") 0 extract_of_root (lend 1 1 2))
    (leaves (exit 0 0 ((1 ∷ 1 ∷ 2 ∷ []) ∷ zeros 1 ∷ zeros 1 ∷ zeros 1 ∷ zeros 1 ∷ zeros 1 ∷ zeros 1 ∷ zeros 1 ∷ (1 ∷ 0 ∷ []) ∷ [])))
    ∷ refused_selecting schema_s bundle_t 0 extract_j (lend 6 5 3) 18 0
    ∷ refused_selecting schema_s bundle_t 0 extract_j (lend 9 2 3) 18 0
    ∷ refused_selecting schema_s bundle_t 0 extract_j (lend 9 5 1) 18 0
    ∷ refused_selecting schema_s bundle_t 1 extract_j (lend 9 5 0) 18 0
    -- 1: columns of unequal length; a place past the bundle's paths, whatever the extract; one that no bundle has
    ∷ refused_selecting [] [] 0 [] (sizes 9 8 9 9 9 9) 1 0
    ∷ refused_selecting schema_s bundle_t 3 extract_j (lend 9 5 3) 1 0
    ∷ refused_selecting schema_s bundle_t 3 [] (lend 9 5 3) 1 0
    ∷ refused_selecting schema_s bundle_t 9 extract_j (lend 9 5 3) 1 0
    ∷ refused_selecting declared_twice bundle_t 9 extract_j (lend 9 5 3) 1 0
    ∷ refused_selecting schema_s undeclared 9 extract_j (lend 9 5 3) 1 0
    -- a place that some bundle has, where schema or bundle is refused
    ∷ refused_selecting declared_twice bundle_t 8 extract_j (lend 9 5 3) 6 28
    ∷ refused_selecting [] bundle_t 3 extract_j (lend 9 5 3) 2 0
    ∷ refused_selecting schema_s undeclared 8 extract_j (lend 9 5 3) 10 18
    -- the texts in turn, the first that is refused
    ∷ refused_selecting foreign undeclared 0 no_extract (lend 9 5 3) 3 6
    ∷ refused_selecting schema_s undeclared 1 no_extract (lend 9 5 3) 10 18
    ∷ refused_selecting schema_s bundle_t 2 no_extract (lend 0 0 0) 17 0
    ∷ refused_selecting schema_s bundle_t 2 [] (lend 9 5 3) 2 0
    ∷ []

pub making-holds : AllHold making
unfolding computing answer_to making
making-holds = answered making

pub selecting-holds : AllHold selecting
unfolding computing answer_to selecting
selecting-holds = answered selecting
