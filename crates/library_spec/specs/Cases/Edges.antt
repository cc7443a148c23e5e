-- Cases of refusal 1 on tables; each axis and each kind of condition on J; listings.
use Rattle.std.specs.Prelude.{List, [], ◌∷◌, ◌++◌, ℕ}
use Prim.Native.String.{String}
use Rattle.extract_spec.specs.Cases.Tables.{schema_s, journal_j}
use Rattle.library_spec.specs.Cases.Opened.{computing}
use Rattle.library_spec.specs.Cases.Questions.{table_lent, nodes, printed, says, the_numbers, the_bytes, answer_to, Case, AllHold}
use Rattle.table_spec.specs.Columns.{Columns}
use Rattle.text_spec.specs.Cases.{case, answered, taken, turned_back}
use Rattle.text_spec.specs.Lists.{bytes}

-- the table of J, with a second text row under its focus or without
abbrev pub table_j : Columns
table_j =
    record {
      numbers = 0 ∷ 1 ∷ 2 ∷ 3 ∷ 4 ∷ 5 ∷ 6 ∷ [];
      names = 0 ∷ 1 ∷ 2 ∷ 3 ∷ 4 ∷ 36 ∷ 3 ∷ [];
      parents = 0 ∷ 0 ∷ 1 ∷ 2 ∷ 3 ∷ 4 ∷ 1 ∷ [];
      starts = 0 ∷ 0 ∷ 0 ∷ 0 ∷ 0 ∷ 32 ∷ 0 ∷ [];
      lengths = 0 ∷ 0 ∷ 0 ∷ 0 ∷ 0 ∷ 2 ∷ 0 ∷ [];
      decoded = 0 ∷ 0 ∷ 0 ∷ 0 ∷ 0 ∷ 2 ∷ 0 ∷ [];
    }

abbrev pub two_texts : Columns
two_texts =
    record {
      numbers = 0 ∷ 1 ∷ 2 ∷ 3 ∷ 4 ∷ 5 ∷ 6 ∷ 7 ∷ [];
      names = 0 ∷ 1 ∷ 2 ∷ 3 ∷ 4 ∷ 36 ∷ 36 ∷ 3 ∷ [];
      parents = 0 ∷ 0 ∷ 1 ∷ 2 ∷ 3 ∷ 4 ∷ 4 ∷ 1 ∷ [];
      starts = 0 ∷ 0 ∷ 0 ∷ 0 ∷ 0 ∷ 32 ∷ 32 ∷ 0 ∷ [];
      lengths = 0 ∷ 0 ∷ 0 ∷ 0 ∷ 0 ∷ 2 ∷ 1 ∷ 0 ∷ [];
      decoded = 0 ∷ 0 ∷ 0 ∷ 0 ∷ 0 ∷ 2 ∷ 1 ∷ 0 ∷ [];
    }

pub cases : List Case
cases =
    -- 1: a second text row
    case (table_lent schema_s table_j 7 journal_j) (says taken)
    ∷ case (table_lent schema_s two_texts 8 journal_j) (says (turned_back 1 0))
    ∷ []

pub all_hold : AllHold cases
unfolding computing answer_to cases
all_hold = answered cases

-- ---- selections: J's nodes are scan 0, plate 1, well 2, tile 3, focus 4, its text 5, and the tile 6 under plate
abbrev pub selecting : String → List ℕ → Case
selecting p numbers = case (nodes schema_s (bytes p) journal_j) (the_numbers (numbers ∷ []))

pub selections : List Case
selections =
    -- each axis
    selecting "self::node()\n" (0 ∷ [])
    ∷ selecting "child::node()\n" (1 ∷ [])
    ∷ selecting "descendant::node()\n" (1 ∷ 2 ∷ 3 ∷ 4 ∷ 5 ∷ 6 ∷ [])
    ∷ selecting "descendant-or-self::node()\n" (0 ∷ 1 ∷ 2 ∷ 3 ∷ 4 ∷ 5 ∷ 6 ∷ [])
    ∷ selecting "descendant-or-self::scan\n" (0 ∷ [])
    ∷ selecting "descendant::tile/parent::node()\n" (1 ∷ 2 ∷ [])
    ∷ selecting "descendant::focus/ancestor::node()\n" (0 ∷ 1 ∷ 2 ∷ 3 ∷ [])
    ∷ selecting "descendant::focus/ancestor-or-self::node()\n" (0 ∷ 1 ∷ 2 ∷ 3 ∷ 4 ∷ [])
    -- each test
    ∷ selecting "descendant::tile\n" (3 ∷ 6 ∷ [])
    ∷ selecting "descendant::focus/child::node()\n" (5 ∷ [])
    ∷ selecting "descendant::node()/self::text()\n" (5 ∷ [])
    -- "a condition holds when some alternative selects a node": a tile or a focus below; two steps; an axis upwards
    ∷ selecting "descendant::node()[child::focus or child::tile]\n" (1 ∷ 2 ∷ 3 ∷ [])
    ∷ selecting "descendant::tile[child::focus/child::text()]\n" (3 ∷ [])
    ∷ selecting "descendant::tile[parent::well]\n" (3 ∷ [])
    ∷ selecting "descendant::node()[self::well or self::focus]/child::node()\n" (3 ∷ 5 ∷ [])
    ∷ []

pub selections-hold : AllHold selections
unfolding computing answer_to selections
selections-hold = answered selections

-- ---- listings
pub listings : List Case
listings =
    -- nothing is selected, and nothing is needed
    case (printed schema_s (bytes "self::plate\n") journal_j) (the_bytes (bytes "selected 0 kept 0 of 7\n"))
    -- both paths select 3 and 6: each counts once, with the first path's place
    ∷ case (printed schema_s (bytes "descendant::tile\ndescendant::node()\n") journal_j)
    (the_bytes (bytes "selected 6 kept 7 of 7\n1 2 /scan/plate\n2 2 /scan/plate/well\n3 1 /scan/plate/well/tile\n4 2 /scan/plate/well/tile/focus\n"
    ++ bytes "5 2 /scan/plate/well/tile/focus/text()\n6 1 /scan/plate/tile\n"))
    ∷ case (printed schema_s (bytes "self::scan\n") (bytes "<scan/>")) (the_bytes (bytes "selected 1 kept 1 of 1\n0 1 /scan\n"))
    -- the first file that is refused, alone
    ∷ case (printed [] (bytes "self::cell\n") []) (the_bytes (bytes "refused 2 at 0\n"))
    ∷ case (printed schema_s (bytes "self::scan\nchild::cell\n") []) (the_bytes (bytes "refused 10 at 18\n"))
    ∷ case (printed schema_s (bytes "self::scan\n") (bytes "<scan><tile/></scan>")) (the_bytes (bytes "refused 15 at 0\n"))
    ∷ []

pub listings-hold : AllHold listings
unfolding computing answer_to listings
listings-hold = answered listings
