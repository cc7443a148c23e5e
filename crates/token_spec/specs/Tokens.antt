-- The tokens of a journal and their spelling: tags and character data.
use Rattle.std.specs.Prelude.{Bool, not, ◌||◌, List, [], ◌∷◌, ◌++◌, ◌≡◌, ℕ, zero, suc, T, eqb}
use Rattle.text_spec.specs.Bytes.{is_name, all_blank}
use Rattle.text_spec.specs.Lists.{bytes}

-- a tag with its name and the blanks before its `>` or `/>`; character data as written
pub data Token : Type 0 where
  start_tag : List ℕ → List ℕ → Token
  empty_tag : List ℕ → List ℕ → Token
  end_tag : List ℕ → List ℕ → Token
  characters : List ℕ → Token

abbrev pub spell_token : Token → List ℕ
spell_token (start_tag n blanks) = bytes "<" ++ (n ++ (blanks ++ bytes ">"))
spell_token (empty_tag n blanks) = bytes "<" ++ (n ++ (blanks ++ bytes "/>"))
spell_token (end_tag n blanks) = bytes "</" ++ (n ++ (blanks ++ bytes ">"))
spell_token (characters w) = w

abbrev pub spell : List Token → List ℕ
spell [] = []
spell (t ∷ ts) = spell_token t ++ spell ts

-- "`&lt; &gt; &amp; &apos; &quot;`"
abbrev pub entities : List (List ℕ)
entities = bytes "&lt;" ∷ bytes "&gt;" ∷ bytes "&amp;" ∷ bytes "&apos;" ∷ bytes "&quot;" ∷ []

pub data Entity : List ℕ → Type 0 where
  lt : Entity (bytes "&lt;")
  gt : Entity (bytes "&gt;")
  amp : Entity (bytes "&amp;")
  apos : Entity (bytes "&apos;")
  quot : Entity (bytes "&quot;")

-- a byte that stands for itself in character data
abbrev pub is_plain : ℕ → Bool
is_plain b = not (eqb b 0x3C || eqb b 0x26)

-- bytes and entities one after the other, `]]>` not yet excluded
pub data Pieces : List ℕ → Type 0 where
  none : Pieces []
  plain : {b : ℕ} {w : List ℕ} → T (is_plain b) → Pieces w → Pieces (b ∷ w)
  entity : {e w : List ℕ} → Entity e → Pieces w → Pieces (e ++ w)

-- "`]]>` .. included": XML 1.0, production 14
abbrev pub section_end : List ℕ
section_end = bytes "]]>"

abbrev pub NoSectionEnd : List ℕ → Type 0
NoSectionEnd w = (u v : List ℕ) → w ≡ u ++ (section_end ++ v) → ⊥

-- a token that is spelt well
pub data Spelt : Token → Type 0 where
  start-spelt : {n a : List ℕ} → T (is_name n) → T (all_blank a) → Spelt (start_tag n a)
  empty-spelt : {n a : List ℕ} → T (is_name n) → T (all_blank a) → Spelt (empty_tag n a)
  end-spelt : {n a : List ℕ} → T (is_name n) → T (all_blank a) → Spelt (end_tag n a)
  characters-spelt : {b : ℕ} {w : List ℕ} → Pieces (b ∷ w) → NoSectionEnd (b ∷ w) → Spelt (characters (b ∷ w))

-- a tag comes next, or nothing
pub data TagNext : List Token → Type 0 where
  no-token : TagNext []
  start-next : {n a : List ℕ} {ts : List Token} → TagNext (start_tag n a ∷ ts)
  empty-next : {n a : List ℕ} {ts : List Token} → TagNext (empty_tag n a ∷ ts)
  end-next : {n a : List ℕ} {ts : List Token} → TagNext (end_tag n a ∷ ts)

-- tokens that are spelt well, character data taken whole from tag to tag
pub data AllSpelt : List Token → Type 0 where
  none : AllSpelt []
  tag : {t : Token} {ts : List Token} → TagNext (t ∷ []) → Spelt t → AllSpelt ts → AllSpelt (t ∷ ts)
  data-then : {w : List ℕ} {ts : List Token} → Spelt (characters w) → TagNext ts → AllSpelt ts → AllSpelt (characters w ∷ ts)

-- the text is spelt by these tokens
pub record Tokens (text : List ℕ) (ts : List Token) : Type 0 where
  pub spelt : AllSpelt ts
  pub joined : text ≡ spell ts

-- how many elements are open after tokens, where they nest
abbrev pub open_after : ℕ → List Token → ℕ
open_after d [] = d
open_after d (start_tag n a ∷ ts) = open_after (suc d) ts
open_after d (empty_tag n a ∷ ts) = open_after d ts
open_after zero (end_tag n a ∷ ts) = open_after zero ts
open_after (suc d) (end_tag n a ∷ ts) = open_after d ts
open_after d (characters w ∷ ts) = open_after d ts
