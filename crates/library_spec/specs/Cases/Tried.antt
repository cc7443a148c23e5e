-- Document 01's cases: the paths tried on S and J, the two extracts in hex, the fourth row's numbers, the listing, and the pairs
-- accepted and turned back. One table, one theorem.
use Rattle.std.specs.Prelude.{List, [], ◌∷◌, ◌++◌, map, ℕ, zero, suc}
use Prim.Native.String.{String}
use Rattle.extract_spec.specs.Cases.Tables.{schema_s, journal_j}
use Rattle.library_spec.specs.Cases.Opened.{computing}
use Rattle.library_spec.specs.Cases.Questions.{Text, schema_read, bundle_read, journal_read, names, nodes, rows_kept, extract_made, printed, says, the_names, the_numbers, the_bytes, answer_to, Case, AllHold}
use Rattle.library_spec.specs.Listing.{decimal}
use Rattle.path_spec.specs.Cases.Bundles.{steps}
use Rattle.schema_spec.specs.Names.{Names, element, text}
use Rattle.text_spec.specs.Cases.{case, answered, taken, turned_back, copies}
use Rattle.text_spec.specs.Lists.{bytes}

-- the elements of S
abbrev pub scan : ℕ
scan = 0

abbrev pub plate : ℕ
plate = 1

abbrev pub well : ℕ
well = 2

abbrev pub tile : ℕ
tile = 3

abbrev pub focus : ℕ
focus = 4

-- a row of the table of paths: both columns
abbrev pub tried : String → List ℕ → Names → List Case
tried p selected needed = case (nodes schema_s (bytes p) journal_j) (the_numbers (selected ∷ [])) ∷ case (names schema_s (bytes p)) (the_names needed) ∷ []

-- declarations of e0, e1, .. from k on
abbrev pub declarations : ℕ → ℕ → Text
declarations zero k = []
declarations (suc n) k = bytes "<!ELEMENT e" ++ (decimal k ++ (bytes " EMPTY>" ++ declarations n (suc k)))

-- a model in so many parentheses, a journal of such a depth, a name of so many bytes
abbrev pub parentheses : ℕ → Text
parentheses n = bytes "<!ELEMENT a " ++ (copies n (bytes "(") ++ (bytes "a" ++ (copies n (bytes ")") ++ bytes ">")))

abbrev pub depth : ℕ → Text
depth n = copies n (bytes "<a>") ++ copies n (bytes "</a>")

abbrev pub name_of_bytes : ℕ → Text
name_of_bytes n = bytes "<!ELEMENT " ++ (copies n (bytes "n") ++ bytes " EMPTY>")

pub cases : List Case
cases =
    tried "self::scan\n" (0 ∷ []) (element scan ∷ [])
    ++ (tried "self::plate\n" [] []
    ++ (tried "child::well\n" [] []
    ++ (tried "child::plate/child::tile[child::focus]\n" [] (map element (scan ∷ plate ∷ tile ∷ focus ∷ []))
    ++ (tried "child::plate[child::well]/child::tile\n" (6 ∷ []) (map element (scan ∷ plate ∷ well ∷ tile ∷ []))
    ++ (tried "descendant::tile/parent::well\n" (2 ∷ []) (map element (scan ∷ plate ∷ well ∷ tile ∷ []))
    ++ (tried "child::plate/child::tile/parent::node()\n" (1 ∷ []) (map element (scan ∷ plate ∷ tile ∷ []))
    ++ (tried "descendant::text()\n" (5 ∷ []) (map element (scan ∷ plate ∷ well ∷ tile ∷ focus ∷ []) ++ (text focus ∷ []))
    ++ (tried "parent::node()\n" [] []
    ++ (case (extract_made schema_s (bytes "self::scan\n") journal_j)
    (the_bytes (0x01 ∷ 0x00 ∷ 0x05 ∷ 0x00 ∷ 0x00 ∷ 0x00 ∷ 0x00 ∷ 0x00 ∷ 0x03 ∷ 0x00 ∷ 0x02 ∷ 0x00 ∷ 0x01 ∷ []))
    ∷ case (extract_made schema_s (bytes "self::plate\n") journal_j) (the_bytes (0x03 ∷ 0x00 ∷ 0x02 ∷ 0x00 ∷ 0x00 ∷ []))
    ∷ case (rows_kept schema_s (bytes "child::plate/child::tile[child::focus]\n") journal_j) (the_numbers ((0 ∷ 1 ∷ 6 ∷ []) ∷ []))
    ∷ case (printed schema_s (bytes "child::plate[child::well]/child::tile\ndescendant::tile/parent::well\n") journal_j)
    (the_bytes (bytes "selected 2 kept 5 of 7\n2 2 /scan/plate/well\n6 1 /scan/plate/tile\n"))
    ∷ case (schema_read (declarations 32 0)) (says taken)
    ∷ case (schema_read (declarations 33 0)) (says (turned_back 5 630))
    ∷ case (schema_read (parentheses 8)) (says taken)
    ∷ case (schema_read (parentheses 9)) (says (turned_back 4 20))
    ∷ case (journal_read (bytes "<!ELEMENT a (a*)>") (depth 64)) (says taken)
    ∷ case (journal_read (bytes "<!ELEMENT a (a*)>") (depth 65)) (says (turned_back 13 192))
    ∷ case (bundle_read schema_s (steps 16)) (says taken)
    ∷ case (bundle_read schema_s (steps 17)) (says (turned_back 9 0))
    ∷ case (schema_read (name_of_bytes 31)) (says taken)
    ∷ case (schema_read (name_of_bytes 32)) (says (turned_back 4 41))
    ∷ [])))))))))

pub all_hold : AllHold cases
unfolding computing answer_to cases
all_hold = answered cases
