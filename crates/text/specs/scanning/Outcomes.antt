-- What reading blanks, a keyword or a name answers, by the places of the text.
use Rattle.std.specs.Prelude.{List, ◌≡◌, ℕ, ◌+◌, ◌≤◌, ◌<◌, length, Result, Ok, Err}
use Rattle.text_spec.specs.Bytes.{is_blank, continues_name}
use Rattle.text_spec.specs.Limits.{max_name_bytes}
use Rattle.text_spec.specs.Scans.{byte_at, Each, Stops, Begins}

-- ---- blanks
abbrev pub NoBlank : List ℕ → ℕ → Type 0
NoBlank s i = Stops is_blank s i

-- all blanks at a place
pub record Skipped (s : List ℕ) (at r : ℕ) : Type 0 where
  pub low : at ≤ r
  pub high : r ≤ length s
  pub blanks : Each is_blank s at r
  pub stop : NoBlank s r

-- the same, of which there must be one
abbrev pub SpacedAs : List ℕ → ℕ → Result ℕ ℕ → Type 0
SpacedAs s at (Ok j) = (at < j) × Skipped s at j
SpacedAs s at (Err j) = (j ≡ at) × NoBlank s at

pub record Spaced (s : List ℕ) (at : ℕ) (r : Result ℕ ℕ) : Type 0 where
  pub says : SpacedAs s at r

-- ---- the keyword w: all of it, or as many bytes as stand there and then the text's end or another byte
abbrev pub SpeltAs : List ℕ → List ℕ → ℕ → Result ℕ ℕ → Type 0
SpeltAs w s at (Ok j) = (j ≡ at + length w) × Begins w s at (length w)
SpeltAs w s at (Err j) =
    (n : ℕ) × (j ≡ at + n) × (n < length w) × Begins w s at n × (j < length s → byte_at s j ≡ byte_at w n → ⊥)

pub record Spelt (w s : List ℕ) (at : ℕ) (r : Result ℕ ℕ) : Type 0 where
  pub says : SpeltAs w s at r

-- ---- the name at j: its end, or the first byte that is too many
abbrev pub NamedAs : List ℕ → ℕ → Result ℕ ℕ → Type 0
NamedAs s j (Ok e) = (j < e) × (e ≤ length s) × (e ≤ j + max_name_bytes) × Each continues_name s j e × Stops continues_name s e
NamedAs s j (Err e) = (e ≡ j + max_name_bytes) × (e < length s) × Each continues_name s j (e + 1)

pub record Named (s : List ℕ) (j : ℕ) (r : Result ℕ ℕ) : Type 0 where
  pub says : NamedAs s j r
