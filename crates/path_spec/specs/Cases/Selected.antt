-- Cases of selection for the axes of document 02, R-1: what paths select on one table.
use Rattle.std.specs.Prelude.{List, [], ◌∷◌, ℕ}
use Rattle.path_spec.specs.Cases.Opened.{computing}
use Rattle.path_spec.specs.Paths.{from_root_element}
use Rattle.path_spec.specs.Reading.{read_bundle}
use Rattle.path_spec.specs.Selection.{select_rows}
use Rattle.schema_spec.specs.Records.{schema_in}
use Rattle.table_spec.specs.Rows.{Row, element_row, text_row}
use Rattle.text_spec.specs.Cases.{Case, case, AllHold, answered}
use Rattle.text_spec.specs.Lists.{bytes, gather}
use Rattle.text_spec.specs.Refusals.{result_or}

abbrev pub schema_text : List ℕ
schema_text = bytes "<!ELEMENT scan (plate*)><!ELEMENT plate (tile*)><!ELEMENT tile (focus?)><!ELEMENT focus (#PCDATA)>"

-- Two plates: the first with three tiles, of which two have a focus, the second with a tile and, as no journal has it, a text beside the tile.
abbrev pub rows : List Row
rows =
    element_row 0 0 0 ∷ element_row 1 1 0 ∷ element_row 2 2 1 ∷ element_row 3 3 2 ∷ text_row 4 3 3 0 1 1 ∷ element_row 5 2 1 ∷ element_row 6 3 5 ∷ element_row 7 2 1 ∷ element_row 8 1 0
    ∷ element_row 9 2 8 ∷ text_row 10 1 8 0 1 1 ∷ []

-- the numbers that the path of a bundle's one line selects; of a bundle that is refused, the root's, which no case has
abbrev pub selects : List ℕ → List ℕ
selects bundle = gather (λ p. select_rows [] rows p) (result_or (from_root_element [] ∷ []) (read_bundle (schema_in schema_text) bundle))

pub cases : List (Case (List ℕ) (List ℕ))
cases =
    case (bytes "child::plate/child::tile/following-sibling::tile\n") (5 ∷ 7 ∷ [])
    ∷ case (bytes "child::plate/child::tile/preceding-sibling::tile\n") (2 ∷ 5 ∷ [])
    -- a text is a sibling, and has siblings
    ∷ case (bytes "child::plate/child::tile/following-sibling::node()\n") (5 ∷ 7 ∷ 10 ∷ [])
    ∷ case (bytes "child::plate/child::text()/preceding-sibling::node()\n") (9 ∷ [])
    -- the root has no siblings, nothing follows or precedes it
    ∷ case (bytes "following-sibling::node()\n") []
    ∷ case (bytes "preceding-sibling::node()\n") []
    ∷ case (bytes "following::node()\n") []
    ∷ case (bytes "preceding::node()\n") []
    -- following excludes descendants, preceding excludes ancestors
    ∷ case (bytes "descendant::focus/following::node()\n") (5 ∷ 6 ∷ 7 ∷ 8 ∷ 9 ∷ 10 ∷ [])
    ∷ case (bytes "descendant::focus/preceding::node()\n") (2 ∷ 3 ∷ 4 ∷ [])
    ∷ case (bytes "child::plate/child::text()/preceding::node()\n") (1 ∷ 2 ∷ 3 ∷ 4 ∷ 5 ∷ 6 ∷ 7 ∷ 9 ∷ [])
    -- in conditions, and with one
    ∷ case (bytes "child::plate/child::tile[following-sibling::tile]\n") (2 ∷ 5 ∷ [])
    ∷ case (bytes "child::plate/child::tile[preceding-sibling::tile/child::focus]\n") (5 ∷ 7 ∷ [])
    ∷ case (bytes "descendant::node()[following::plate]\n") (1 ∷ 2 ∷ 3 ∷ 4 ∷ 5 ∷ 6 ∷ 7 ∷ [])
    ∷ case (bytes "descendant::focus[preceding::focus]\n") (6 ∷ [])
    ∷ case (bytes "child::plate/child::tile/following-sibling::tile[child::focus]\n") (5 ∷ [])
    ∷ []

pub all_hold : AllHold selects cases
unfolding computing cases
all_hold = answered cases
