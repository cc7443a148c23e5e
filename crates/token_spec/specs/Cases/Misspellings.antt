-- Texts at the edges of refusal 11, with the place at which each is misspelt.
use Rattle.std.specs.Prelude.{List, [], ◌∷◌, ℕ}
use Rattle.text_spec.specs.Cases.{Case, case, AllHold, answered}
use Rattle.text_spec.specs.Lists.{bytes}
use Rattle.token_spec.specs.Cases.Opened.{computing}
use Rattle.token_spec.specs.Lexer.{between, mode_after, misspelt_at}

pub cases : List (Case (List ℕ) (List ℕ))
cases =
    -- the second `]` of three; no `]]>` where a blank or an entity parts it
    case (bytes "]]]>") (1 ∷ [])
    ∷ case (bytes "]] >") []
    ∷ case (bytes "]]&lt;>") []
    ∷ case (bytes "&lt;>") []
    -- an entity at its `&`, a tag at its `<`, also where the end cuts it off
    ∷ case (bytes "a&lt") (1 ∷ [])
    ∷ case (bytes "a&LT;") (1 ∷ [])
    ∷ case (bytes "&#38;") (0 ∷ [])
    ∷ case (bytes "a<b ") (1 ∷ [])
    ∷ case (bytes "a<b c>") (1 ∷ [])
    ∷ case (bytes "a<b />&apos;&quot;</b\t>") []
    ∷ []

pub all_hold : AllHold (λ text. misspelt_at (mode_after between 0 text)) cases
unfolding computing cases
all_hold = answered cases
