-- Refusals 2 and 3, which every text meets before its own.
use Rattle.std.specs.Prelude.{◌||◌, List, [], ◌∷◌, ◌++◌, ◌⊎◌, ◌≡◌, ℕ, suc, ◌<◌, T, ltb, length, take}
use Rattle.text_spec.specs.Bytes.{is_foreign}
use Rattle.text_spec.specs.Lists.{is_empty, places_from}
use Rattle.text_spec.specs.Refusals.{Refusal, at, all_at, given, bad_length, bad_byte}

-- 2. "A text is empty or over its length limit."
abbrev pub length_refusals : ℕ → List ℕ → List Refusal
length_refusals limit text = given (is_empty text || ltb limit (length text)) (at bad_length 0)

-- 3. "A byte is none of 09, 0A, 20 to 7E hex (its place)."
abbrev pub byte_refusals : List ℕ → List Refusal
byte_refusals text = all_at bad_byte (places_from 0 is_foreign text)

-- The same as conditions. A text is split at a place where that many elements stand before it.
pub record SplitAt {A : Type 0} (xs : List A) (k : ℕ) : Type 0 where
  pub before : List A
  pub here : A
  pub after : List A
  pub joined : xs ≡ before ++ (here ∷ after)
  pub placed : length before ≡ k

abbrev pub LengthApplies : ℕ → List ℕ → ℕ → Type 0
LengthApplies limit text k = ((text ≡ []) ⊎ (limit < length text)) × (k ≡ 0)

abbrev pub ByteApplies : List ℕ → ℕ → Type 0
ByteApplies text k = (s : SplitAt text k) × T (is_foreign s.here)

-- Refusals 4 and 8, for a grammar given as a relation: the first byte after which no text of it could go on; "its length if it stops short".
abbrev pub Beginning : (List ℕ → Type 0) → List ℕ → Type 0
Beginning Grammatical u = (v : List ℕ) × Grammatical (u ++ v)

pub data Departs (Grammatical : List ℕ → Type 0) (text : List ℕ) (k : ℕ) : Type 0 where
  at_byte : k < length text → Beginning Grammatical (take k text) → (Beginning Grammatical (take (suc k) text) → ⊥) → Departs Grammatical text k
  stops-short : k ≡ length text → Beginning Grammatical text → (Grammatical text → ⊥) → Departs Grammatical text k
