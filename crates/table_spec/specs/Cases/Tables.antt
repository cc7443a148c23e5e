-- Tables of elements that hold themselves, by the rows of their parents: "each later parent is the row before or one above that".
use Rattle.std.specs.Prelude.{Bool, true, false, List, [], ◌∷◌, ℕ, suc}
use Rattle.schema_spec.specs.Records.{schema_in}
use Rattle.schema_spec.specs.Types.{types_of}
use Rattle.table_spec.specs.Cases.Opened.{computing}
use Rattle.table_spec.specs.Rows.{Row, element_row}
use Rattle.table_spec.specs.Tables.{well_formed}
use Rattle.text_spec.specs.Cases.{Case, case, AllHold, answered}
use Rattle.text_spec.specs.Lists.{bytes}

-- rows of element 0 with the parents given, numbered from k on
abbrev pub elements : ℕ → List ℕ → List Row
elements k [] = []
elements k (p ∷ ps) = element_row k 0 p ∷ elements (suc k) ps

pub cases : List (Case (List ℕ) Bool)
cases =
    -- the row before; one above it
    case (0 ∷ 0 ∷ 0 ∷ 2 ∷ []) true
    ∷ case (0 ∷ 0 ∷ 1 ∷ 2 ∷ 1 ∷ []) true
    ∷ case (0 ∷ 0 ∷ 1 ∷ 2 ∷ 0 ∷ []) true
    -- a parent from a closed branch; the row itself, and a later one
    ∷ case (0 ∷ 0 ∷ 0 ∷ 1 ∷ []) false
    ∷ case (0 ∷ 0 ∷ 2 ∷ 2 ∷ []) false
    ∷ case (0 ∷ 2 ∷ 0 ∷ []) false
    ∷ []

pub all_hold : AllHold (λ parents. well_formed (types_of (schema_in (bytes "<!ELEMENT a (a*)>"))) (elements 0 parents)) cases
unfolding computing cases
all_hold = answered cases
