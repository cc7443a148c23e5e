-- The code's classes of bytes as the definition's.
use Rattle.std.specs.Prelude.{Bool, true, false, ◌||◌, ℕ, eqb}
use Rattle.text_spec.specs.Bytes.{blank, letter, digit, markup, other, foreign}
use Rattle.text_spec.specs.Bytes as Bytes
use Rattle.text.specs.declared.classes.Class.{Class}
use Rattle.text.specs.declared.classes.Class.TheVariants.{Blank, Letter, Digit, Markup, Other, Foreign}

abbrev pub meant : Class → Bytes.Class
meant Blank = blank
meant Letter = letter
meant Digit = digit
meant Markup = markup
meant Other = other
meant Foreign = foreign

-- the other bytes with which a name goes on
abbrev pub joins_name : ℕ → Bool
joins_name b = eqb b 0x2D || (eqb b 0x2E || eqb b 0x5F)

-- a byte of this class may stand in a name, where digits may or not, and this byte may or not if it is another
abbrev pub in_name : Bytes.Class → Bool → Bool → Bool
in_name blank digits others = false
in_name letter digits others = true
in_name digit digits others = digits
in_name markup digits others = false
in_name other digits others = others
in_name foreign digits others = false
