-- What the fields at an extract's ends say.
use Rattle.std.specs.Prelude.{Bool, false, ◌&&◌, ℕ, eqb}
use Rattle.extract_spec.specs.Reading.{Item, element_item, text_item, count_item, no_item}

-- "row 0 is the root element with number 0 and parent row 0": what the root's field says
abbrev pub is_root : Item → Bool
is_root (element_item number parent e) = eqb parent 0 && (eqb number 0 && eqb e 0)
is_root (text_item number parent start size) = false
is_root (count_item n) = false
is_root no_item = false

-- the count of so many rows, and nothing after it
abbrev pub is_count : ℕ → Bool → Item → Bool
is_count rows last (element_item number parent e) = false
is_count rows last (text_item number parent start size) = false
is_count rows last (count_item n) = last && eqb n rows
is_count rows last no_item = false
