-- Names as four words.
use Rattle.std.specs.Prelude.{cond, List, [], ◌∷◌, ◌≡◌, ℕ, suc, ◌+◌, ◌*◌, ◌%◌, ◌^◌, ◌≤◌, T, eqb, length}
use Rattle.text_spec.specs.Bytes.{is_between}
use Rattle.text_spec.specs.Lists.{all_of}
use Rattle.text.specs.declared.name_words.Name.{Name}

abbrev pub words : ℕ → ℕ → ℕ → ℕ → Name
words a b c d = record { a = a; b = b; c = c; d = d }

-- a new group of one byte
abbrev pub new_group : Name → ℕ → Name
new_group w x = words x w.a w.b w.c

-- the last group with one byte more
abbrev pub longer_group : Name → ℕ → Name
longer_group w x = words (w.a % 2 ^ 56 * 256 + x) w.b w.c w.d

-- one byte more after k bytes
abbrev pub with_byte : Name → ℕ → ℕ → Name
with_byte w k x = cond (eqb (k % 8) 0) (new_group w x) (longer_group w x)

-- more bytes after k bytes
unfoldable pub with_bytes : Name → ℕ → List ℕ → Name
with_bytes w k [] = w
with_bytes w k (x ∷ xs) = with_bytes (with_byte w k x) (suc k) xs

-- the words of a name
unfoldable pub words_of : List ℕ → Name
words_of n = with_bytes (words 0 0 0 0) 0 n

-- at most 32 bytes, none of them 0: the words tell the name
pub record Spells (w : Name) (n : List ℕ) : Type 0 where
  pub spelt : w ≡ words_of n
  pub short : length n ≤ 32
  pub filled : T (all_of (is_between 1 255) n)
