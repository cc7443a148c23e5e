-- Names as slices of a text, and byte by byte.
use Rattle.std.specs.Prelude.{List, ◌≡◌, ℕ}
use Rattle.text_spec.specs.Lists.{first, value_or}
use Rattle.text_spec.specs.Scans.{name_in, name_at}

-- each byte goes on as a name
abbrev pub IsName : List ℕ → Type 0
IsName n = name_in n ≡ n

-- the first byte of the name at a place, 0 where there is none
abbrev pub name_byte : List ℕ → ℕ → ℕ
name_byte s i = value_or 0 (first (name_at s i))
