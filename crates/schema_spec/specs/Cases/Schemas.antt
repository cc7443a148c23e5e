-- Schema texts at the edges of refusals 4 to 7.
use Rattle.std.specs.Prelude.{List, [], ◌∷◌, ◌++◌, ℕ}
use Prim.Native.String.{String}
use Rattle.schema_spec.specs.Cases.Opened.{computing}
use Rattle.schema_spec.specs.Reading.{read_schema}
use Rattle.text_spec.specs.Cases.{Case, case, AllHold, answered, Judgement, taken, turned_back, judgement_of, copies, joined}
use Rattle.text_spec.specs.Lists.{bytes}

-- a model of so many names, parted by a separator
abbrev pub model_names : ℕ → String → List ℕ
model_names n separator = bytes "(" ++ (joined n (bytes separator) (bytes "a") ++ bytes ")>")

pub cases : List (Case (List ℕ) Judgement)
cases =
    -- 4: inside a keyword, after a name of 31 bytes, at a mixed separator
    case (bytes "<!ATTLIST a>") (turned_back 4 2)
    ∷ case (bytes "<!ELEMENT a (" ++ (copies 32 (bytes "n") ++ bytes ")>")) (turned_back 4 44)
    ∷ case (bytes "<!ELEMENT a (a|b,c)>x") (turned_back 4 16)
    ∷ case (bytes "<!ELEMENT a (a,a|a)>") (turned_back 4 16)
    -- 4: no blank stands before an indicator; one must stand after the keyword, and after the name
    ∷ case (bytes "<!ELEMENT a (a) *>") (turned_back 4 16)
    ∷ case (bytes "<!ELEMENTa EMPTY>") (turned_back 4 9)
    ∷ case (bytes "<!ELEMENT a(a)>") (turned_back 4 11)
    -- 5: 64 and 65 names in a model, of a choice and of a sequence; in a model that is not the first
    ∷ case (bytes "<!ELEMENT a " ++ model_names 64 "|") taken
    ∷ case (bytes "<!ELEMENT a " ++ model_names 65 "|") (turned_back 5 141)
    ∷ case (bytes "<!ELEMENT a " ++ model_names 64 ",") taken
    ∷ case (bytes "<!ELEMENT a " ++ model_names 65 ",") (turned_back 5 141)
    ∷ case (bytes "<!ELEMENT a EMPTY><!ELEMENT b " ++ model_names 65 "|") (turned_back 5 159)
    -- 6: a name that is not the last one declared before
    ∷ case (bytes "<!ELEMENT a EMPTY><!ELEMENT b EMPTY><!ELEMENT a EMPTY>") (turned_back 6 46)
    -- 7: in a model that is not the first
    ∷ case (bytes "<!ELEMENT a EMPTY><!ELEMENT b (c)>") (turned_back 7 31)
    ∷ []

pub all_hold : AllHold (λ text. judgement_of (read_schema text)) cases
unfolding computing cases
all_hold = answered cases
