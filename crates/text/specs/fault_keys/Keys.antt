-- Refusals as numbers, in their order: by number first, then by place.
use Rattle.std.specs.Prelude.{Bool, cond, List, [], ◌∷◌, ℕ, min, ◌+◌, ◌*◌, ◌<◌}
use Rattle.std.proofs.Math.Option.{Option, none, some}
use Rattle.text_spec.specs.Refusals.{Refusal, number_of}

-- no refusal
abbrev pub no_key : ℕ
no_key = 18446744073709551615

-- every place in a text is below it
abbrev pub place_limit : ℕ
place_limit = 4294967296

abbrev pub key_at : ℕ → ℕ → ℕ
key_at number place = number * place_limit + place

abbrev pub key_of : Refusal → ℕ
key_of f = key_at (number_of f.reason) f.place

abbrev pub key_or : Option Refusal → ℕ
key_or none = no_key
key_or (some f) = key_of f

-- the least of a list
abbrev pub least_key : List Refusal → ℕ
least_key [] = no_key
least_key (f ∷ fs) = min (key_of f) (least_key fs)

-- one refusal more, if the test holds
abbrev pub noted_key : Bool → ℕ → ℕ → ℕ → ℕ
noted_key test number place key = cond test (min (key_at number place) key) key

-- every place is below the limit
abbrev pub Placed : List Refusal → Type 0
Placed [] = Unit {0}
Placed (f ∷ fs) = (f.place < place_limit) × Placed fs
