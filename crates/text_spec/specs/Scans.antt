-- A text by its places: bytes that pass a test one after the other, the bytes of a keyword, the name at a place.
use Rattle.std.specs.Prelude.{Bool, true, false, cond, List, [], ◌∷◌, ◌≡◌, ℕ, ◌+◌, ◌≤◌, ◌<◌, length, drop, get_or}
use Rattle.text_spec.specs.Bytes.{continues_name}

abbrev pub byte_at : List ℕ → ℕ → ℕ
byte_at s i = get_or s i 0

-- each byte from i up to j passes a test
abbrev pub Each : (ℕ → Bool) → List ℕ → ℕ → ℕ → Type 0
Each f s i j = (k : ℕ) → i ≤ k → k < j → f (byte_at s k) ≡ true

-- the byte at i, if there is one, does not
abbrev pub Stops : (ℕ → Bool) → List ℕ → ℕ → Type 0
Stops f s i = i < length s → f (byte_at s i) ≡ false

-- the first n bytes of w stand at a place
pub record Begins (w s : List ℕ) (at n : ℕ) : Type 0 where
  pub fits : at + n ≤ length s
  pub same : (k : ℕ) → k < n → byte_at s (at + k) ≡ byte_at w k

-- the longest run of bytes that go on as a name
abbrev pub name_in : List ℕ → List ℕ
name_in [] = []
name_in (b ∷ bs) = cond (continues_name b) (b ∷ name_in bs) []

-- the name at a place
abbrev pub name_at : List ℕ → ℕ → List ℕ
name_at s p = name_in (drop p s)
