-- Bytes, their six classes, blanks, and names of 1 to 31 bytes.
use Rattle.std.specs.Prelude.{Bool, false, cond, not, ◌&&◌, ◌||◌, List, [], ◌∷◌, ℕ, eqb, leb, length}
use Rattle.text_spec.specs.Limits.{max_name_bytes}
use Rattle.text_spec.specs.Lists.{bytes, any_of, all_of}

abbrev pub is_between : ℕ → ℕ → ℕ → Bool
is_between low high b = leb low b && leb b high

-- "Blanks (space, tab, line feed)"
abbrev pub is_blank : ℕ → Bool
is_blank b = eqb b 32 || (eqb b 9 || eqb b 10)

abbrev pub is_letter : ℕ → Bool
is_letter b = is_between 65 90 b || is_between 97 122 b

abbrev pub is_digit : ℕ → Bool
is_digit b = is_between 48 57 b

-- the delimiters of the three grammars
abbrev pub is_markup : ℕ → Bool
is_markup b = any_of (eqb b) (bytes "!#&()*+,/:;<>?[]|")

-- Refusal 3: "none of 09, 0A, 20 to 7E hex"
abbrev pub is_foreign : ℕ → Bool
is_foreign b = not (eqb b 0x09 || (eqb b 0x0A || is_between 0x20 0x7E b))

pub data Class : Type 0 where
  blank letter digit markup other foreign : Class

-- each byte has one class
unfoldable pub class_of : ℕ → Class
class_of b =
    cond (is_foreign b) foreign
    (cond (is_blank b) blank
    (cond (is_letter b) letter
    (cond (is_digit b) digit
    (cond (is_markup b) markup other))))

-- "A name is a letter or `_`, then letters, digits, `-`, `.`, `_`"
abbrev pub starts_name : ℕ → Bool
starts_name b = is_letter b || eqb b 0x5F

abbrev pub continues_name : ℕ → Bool
continues_name b = is_letter b || (is_digit b || (eqb b 0x2D || (eqb b 0x2E || eqb b 0x5F)))

-- "1 to 31 bytes"
abbrev pub is_name : List ℕ → Bool
is_name [] = false
is_name (b ∷ bs) = starts_name b && (all_of continues_name bs && leb (length (b ∷ bs)) max_name_bytes)

abbrev pub all_blank : List ℕ → Bool
all_blank bs = all_of is_blank bs
