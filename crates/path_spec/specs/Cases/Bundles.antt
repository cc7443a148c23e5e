-- Bundle texts at the edges of refusals 8 to 10, under a schema that declares `scan` alone.
use Rattle.std.specs.Prelude.{List, [], ◌∷◌, ◌++◌, ℕ}
use Rattle.path_spec.specs.Cases.Opened.{computing}
use Rattle.path_spec.specs.Reading.{read_bundle}
use Rattle.schema_spec.specs.Records.{schema_in}
use Rattle.text_spec.specs.Cases.{Case, case, AllHold, answered, Judgement, taken, turned_back, judgement_of, joined}
use Rattle.text_spec.specs.Lists.{bytes}

-- so many steps, so many alternatives of one step
abbrev pub steps_of : List ℕ → ℕ → List ℕ
steps_of step n = joined n (bytes "/") step

abbrev pub steps_joined : ℕ → List ℕ
steps_joined = steps_of (bytes "self::scan")

abbrev pub following_steps : ℕ → List ℕ
following_steps = steps_of (bytes "following::scan")

abbrev pub alternatives : ℕ → List ℕ
alternatives n = joined n (bytes " or ") (bytes "self::scan")

-- a path of so many steps; a condition on a path's first step, and on its second
abbrev pub steps : ℕ → List ℕ
steps n = steps_joined n ++ bytes "\n"

abbrev pub on_first : List ℕ → List ℕ
on_first condition = bytes "self::scan[" ++ (condition ++ bytes "]\n")

abbrev pub on_second : List ℕ → List ℕ
on_second condition = bytes "self::scan/" ++ on_first condition

pub cases : List (Case (List ℕ) Judgement)
cases =
    -- 8 before 9 before 10
    case (bytes "self::zz\n" ++ (steps 17 ++ bytes "x")) (turned_back 8 196)
    ∷ case (bytes "self::zz\n" ++ steps 17) (turned_back 9 9)
    ∷ case (bytes "self::zz\n" ++ steps 16) (turned_back 10 6)
    -- 9: four and five steps in an alternative, and in one that is not the first
    ∷ case (on_first (steps_joined 4)) taken
    ∷ case (steps 1 ++ on_first (steps_joined 5)) (turned_back 9 11)
    ∷ case (on_first (bytes "self::scan or " ++ steps_joined 4)) taken
    ∷ case (on_first (bytes "self::scan or " ++ steps_joined 5)) (turned_back 9 0)
    -- 9: four and five alternatives, and on a step that is not the first
    ∷ case (on_first (alternatives 4)) taken
    ∷ case (steps 1 ++ on_first (alternatives 5)) (turned_back 9 11)
    ∷ case (on_second (alternatives 4)) taken
    ∷ case (on_second (alternatives 5)) (turned_back 9 0)
    -- 8: where no axis goes on, in the text or at its end
    ∷ case (bytes "f") (turned_back 8 1)
    ∷ case (bytes "followin") (turned_back 8 8)
    ∷ case (bytes "following-\n") (turned_back 8 10)
    ∷ case (bytes "following:scan\n") (turned_back 8 10)
    ∷ case (bytes "following-or-self::scan\n") (turned_back 8 10)
    ∷ case (bytes "following-siblings::scan\n") (turned_back 8 17)
    ∷ case (bytes "precedes::scan\n") (turned_back 8 6)
    ∷ case (bytes "precedin\n") (turned_back 8 8)
    ∷ case (bytes "preceding-") (turned_back 8 10)
    ∷ case (bytes "descendant-sibling::scan\n") (turned_back 8 11)
    ∷ case (bytes "following::scan\nfollowing-sibling::scan\npreceding::scan\npreceding-sibling::scan\nparent::scan\n") taken
    -- 9: a step along such an axis counts as one
    ∷ case (following_steps 16 ++ bytes "\n") taken
    ∷ case (steps 1 ++ (following_steps 17 ++ bytes "\n")) (turned_back 9 11)
    ∷ case (on_first (following_steps 4)) taken
    ∷ case (steps 1 ++ on_first (following_steps 5)) (turned_back 9 11)
    -- 10: the place of the name
    ∷ case (bytes "following::scan/preceding-sibling::zz\n") (turned_back 10 35)
    ∷ []

pub all_hold : AllHold (λ bundle. judgement_of (read_bundle (schema_in (bytes "<!ELEMENT scan EMPTY>")) bundle)) cases
unfolding computing cases
all_hold = answered cases
