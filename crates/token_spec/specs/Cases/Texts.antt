-- Bytes that are one journal text, with the number of characters that they stand for, and bytes that are not.
use Rattle.std.specs.Prelude.{List, [], ◌∷◌, ℕ}
use Rattle.std.proofs.Math.Option.{Option, none, some}
use Prim.Native.String.{String}
use Rattle.text_spec.specs.Cases.{Case, case, AllHold, answered, copies}
use Rattle.text_spec.specs.Lists.{bytes}
use Rattle.token_spec.specs.Cases.Opened.{computing}
use Rattle.token_spec.specs.Texts.{decoded_size}

abbrev counts : String → ℕ → Case (List ℕ) (Option ℕ)
counts text n = case (bytes text) (some n)

abbrev refuses : String → Case (List ℕ) (Option ℕ)
refuses text = case (bytes text) none

pub cases : List (Case (List ℕ) (Option ℕ))
cases =
    -- each entity alone and doubled
    counts "&lt;" 1
    ∷ counts "&gt;" 1
    ∷ counts "&amp;" 1
    ∷ counts "&apos;" 1
    ∷ counts "&quot;" 1
    ∷ counts "&lt;&lt;" 2
    ∷ counts "&gt;&gt;" 2
    ∷ counts "&amp;&amp;" 2
    ∷ counts "&apos;&apos;" 2
    ∷ counts "&quot;&quot;" 2
    -- at both ends, between other bytes, parted by blanks
    ∷ counts "&lt;b&gt;" 3
    ∷ counts "a&quot;b" 3
    ∷ counts " &apos; " 3
    ∷ case (copies 12 (bytes "&quot;")) (some 12)
    -- nothing is decoded twice
    ∷ counts "&amp;lt;" 4
    ∷ counts "&amp;amp;lt;" 8
    -- without an entity, also blanks alone
    ∷ counts "a" 1
    ∷ counts " " 1
    ∷ counts "\t\n" 2
    ∷ counts ">]]" 3
    ∷ counts "lt;" 3
    -- brackets that a blank or an entity parts from `>`
    ∷ counts "]] >" 4
    ∷ counts "]]&amp;>" 4
    ∷ counts "]]&gt;" 3
    ∷ refuses "]]>"
    ∷ refuses "a]]>b"
    ∷ refuses "]]]>"
    -- no byte; an entity that is misspelt or cut off
    ∷ refuses ""
    ∷ refuses "&"
    ∷ refuses "a&"
    ∷ refuses "&am;"
    ∷ refuses "&amp"
    ∷ refuses "&amp;&"
    ∷ refuses "&;"
    ∷ refuses "&&amp;"
    ∷ refuses "&#38;"
    -- a tag at the front, within, at the end, cut off
    ∷ refuses "a<b/>c"
    ∷ refuses "<b/>c"
    ∷ refuses "a<b/>"
    ∷ refuses "&lt;<b>&gt;"
    ∷ refuses "a<"
    ∷ refuses "<"
    ∷ []

pub all_hold : AllHold decoded_size cases
unfolding computing cases
all_hold = answered cases
