-- One text beside its bytes, by its lengths: the characters that it has, or none where refusal 1 applies. Document 02, R-2: "a row with two equal lengths is
-- copied, the bytes of any other must be one journal text that decodes to its decoded length, else refusal 1".
use Rattle.std.specs.Prelude.{Bool, true, false, cond, List, [], ◌∷◌, ℕ}
use Rattle.std.proofs.Math.Option.{Option, none, some}
use Prim.Native.String.{String}
use Rattle.schema_spec.specs.Names.{element}
use Rattle.schema_spec.specs.Records.{schema_in}
use Rattle.schema_spec.specs.Types.{Types, types_of}
use Rattle.table_spec.specs.Cases.Opened.{computing}
use Rattle.table_spec.specs.Rows.{row, element_row, text_row, characters_of}
use Rattle.table_spec.specs.Tables.{well_formed, well_formed_with}
use Rattle.text_spec.specs.Cases.{Case, case, AllHold, answered}
use Rattle.text_spec.specs.Lists.{bytes}

-- a root that holds a text alone
abbrev alone : Types
alone = types_of (schema_in (bytes "<!ELEMENT a (#PCDATA)>"))

-- the bytes of a text, its length and its decoded length
pub data Spelling : Type 0 where
  spelling : List ℕ → ℕ → ℕ → Spelling

-- the characters of the text under the root, if the table is well formed beside it
abbrev pub characters_in : Spelling → Option (List ℕ)
characters_in (spelling text size decoded) =
    let r = text_row 1 0 0 0 size decoded in
    cond (well_formed_with alone text (element_row 0 0 0 ∷ r ∷ [])) (some (characters_of text r)) none

abbrev gives : String → ℕ → ℕ → String → Case Spelling (Option (List ℕ))
gives text size decoded v = case (spelling (bytes text) size decoded) (some (bytes v))

abbrev refuses : String → ℕ → ℕ → Case Spelling (Option (List ℕ))
refuses text size decoded = case (spelling (bytes text) size decoded) none

pub cases : List (Case Spelling (Option (List ℕ)))
cases =
    -- equal lengths are copied, whatever the bytes are; unequal ones are decoded; any other decoded length is refused
    gives "&amp;" 5 5 "&amp;"
    ∷ gives "&amp;" 5 1 "&"
    ∷ refuses "&amp;" 5 0
    ∷ refuses "&amp;" 5 2
    ∷ refuses "&amp;" 5 4
    ∷ refuses "&amp;" 5 6
    ∷ gives "a<b" 3 3 "a<b"
    ∷ gives "&" 1 1 "&"
    -- nothing is decoded twice
    ∷ gives "&amp;lt;" 8 4 "&lt;"
    ∷ refuses "&amp;lt;" 8 1
    ∷ gives "&lt;b&gt; &quot;c&apos;" 23 7 "<b> \"c'"
    -- bytes that are not one journal text
    ∷ refuses "a<b&gt;" 7 4
    ∷ refuses "&lt;&" 5 2
    ∷ refuses "&lt;&gt" 7 2
    ∷ refuses "]]>&lt;" 7 4
    ∷ refuses "<b/>&lt;" 8 5
    ∷ refuses "&lt;<b>" 7 1
    -- without an entity no other length is right
    ∷ gives "ab" 2 2 "ab"
    ∷ refuses "ab" 2 1
    ∷ []

pub all_hold : AllHold characters_in cases
unfolding computing cases
all_hold = answered cases

-- an element has no decoded length
pub elements : List (Case ℕ Bool)
elements = case 0 true ∷ case 1 false ∷ []

pub elements-hold : AllHold (λ decoded. well_formed alone (row 0 (element 0) 0 0 0 decoded ∷ [])) elements
unfolding computing elements
elements-hold = answered elements
