-- Declarations as they are written: each name with its place.
use Rattle.std.specs.Prelude.{true, false, List, [], ℕ}
use Rattle.schema_spec.specs.Models.{Particle, sequence, choice, repeated, Content}
use Rattle.text_spec.specs.Lists.{bytes}

-- a name where it is written: the place of its first byte, and its bytes
pub record Use : Type 0 where
  pub place : ℕ
  pub name : List ℕ

-- a declaration: the place of its `<`, its name, and its content
pub record Declaration : Type 0 where
  pub place : ℕ
  pub name : Use
  pub content : Content Use

-- the keywords of productions 45, 46 and 51
abbrev pub element_keyword : List ℕ
element_keyword = bytes "<!ELEMENT"

abbrev pub empty_keyword : List ℕ
empty_keyword = bytes "EMPTY"

abbrev pub pcdata_keyword : List ℕ
pcdata_keyword = bytes "#PCDATA"

-- ('?' | '*' | '+')? of productions 47 and 48
pub data Indicator : Type 0 where
  once optional any one_or_more : Indicator

abbrev pub spell_indicator : Indicator → List ℕ
spell_indicator once = []
spell_indicator optional = bytes "?"
spell_indicator any = bytes "*"
spell_indicator one_or_more = bytes "+"

abbrev pub indicated : Indicator → Particle Use → Particle Use
indicated once p = p
indicated optional p = repeated false true p
indicated any p = repeated true true p
indicated one_or_more p = repeated true false p

-- what parts the particles of a group: nothing while there is one, then `|` or `,` throughout
pub data Separator : Type 0 where
  unparted by_bar by_comma : Separator

abbrev pub join_by : Separator → Particle Use → Particle Use → Particle Use
join_by unparted p q = q
join_by by_bar p q = choice p q
join_by by_comma p q = sequence p q
