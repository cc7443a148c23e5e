-- Character data, the characters that it stands for, and how many bytes fewer the lexer says that they are.
use Rattle.std.specs.Prelude.{List, [], ◌∷◌, ℕ}
use Rattle.std.proofs.Math.Option.{some}
use Prim.Native.String.{String}
use Rattle.text_spec.specs.Cases.{Case, case, AllHold, answered}
use Rattle.text_spec.specs.Lists.{bytes}
use Rattle.token_spec.specs.Cases.Opened.{computing}
use Rattle.token_spec.specs.Characters.{decode}
use Rattle.token_spec.specs.Lexer.{run, Mode, between, in_data, mode_after}

abbrev pub stands : String → String → Case (List ℕ) (List ℕ)
stands text characters = case (bytes text) (bytes characters)

pub cases : List (Case (List ℕ) (List ℕ))
cases =
    -- each entity alone and doubled
    stands "&lt;" "<"
    ∷ stands "&gt;" ">"
    ∷ stands "&amp;" "&"
    ∷ stands "&apos;" "'"
    ∷ case (bytes "&quot;") (0x22 ∷ [])
    ∷ stands "&lt;&lt;" "<<"
    ∷ stands "&gt;&gt;" ">>"
    ∷ stands "&amp;&amp;" "&&"
    ∷ stands "&apos;&apos;" "''"
    ∷ case (bytes "&quot;&quot;") (0x22 ∷ 0x22 ∷ [])
    -- at both ends of a text, and parted by blanks
    ∷ stands "&lt;b&gt;" "<b>"
    ∷ stands "&amp; co &apos;" "& co '"
    ∷ stands " &lt; " " < "
    -- nothing is decoded twice
    ∷ stands "&amp;lt;" "&lt;"
    ∷ stands "&amp;amp;lt;" "&amp;lt;"
    ∷ stands "&amp;&lt;" "&<"
    -- other bytes, also those of an entity without its `&`
    ∷ stands "" ""
    ∷ stands "lt;]]" "lt;]]"
    ∷ []

pub all_hold : AllHold decode cases
unfolding computing cases
all_hold = answered cases

-- what the lexer leaves open after each
pub modes : List (Case (List ℕ) Mode)
modes =
    case (bytes "a]") (in_data (run 0 (some 0) 0) 1)
    ∷ case (bytes "&lt;") (in_data (run 0 (some 0) 3) 0)
    ∷ case (bytes " a&amp;&apos;b") (in_data (run 0 (some 1) 9) 0)
    ∷ case (bytes "&amp;lt;]") (in_data (run 0 (some 0) 4) 1)
    ∷ case (bytes "<a>&quot; &gt;") (in_data (run 3 (some 3) 8) 0)
    ∷ []

pub modes-hold : AllHold (mode_after between 0) modes
unfolding computing modes
modes-hold = answered modes
