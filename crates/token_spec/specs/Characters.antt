-- The characters that character data stands for: each of XML 1.0's five predefined entities (4.6) stands for one, any other byte for itself. Data is
-- decoded in one pass: what an entity stands for is not looked at again.
use Rattle.std.specs.Prelude.{Bool, cond, not, List, [], ◌∷◌, ◌++◌, ℕ, zero, suc, ◌-◌, T, eqb, length}
use Rattle.text_spec.specs.Lists.{bytes, all_of, begins_with}
use Rattle.token_spec.specs.Tokens.{is_plain}

-- the bytes of an entity and the character that it stands for
pub data EntityFor : List ℕ → ℕ → Type 0 where
  lt : EntityFor (bytes "&lt;") 0x3C
  gt : EntityFor (bytes "&gt;") 0x3E
  amp : EntityFor (bytes "&amp;") 0x26
  apos : EntityFor (bytes "&apos;") 0x27
  quot : EntityFor (bytes "&quot;") 0x22

-- character data and the characters that it stands for
pub data Decodes : List ℕ → List ℕ → Type 0 where
  none : Decodes [] []
  plain : {b : ℕ} {w v : List ℕ} → T (is_plain b) → Decodes w v → Decodes (b ∷ w) (b ∷ v)
  entity : {e w v : List ℕ} {c : ℕ} → EntityFor e c → Decodes w v → Decodes (e ++ w) (c ∷ v)

-- the character at the front of a text, and how many bytes after the first spell it
pub record Front : Type 0 where
  pub character : ℕ
  pub more : ℕ

abbrev pub front : ℕ → ℕ → Front
front c n = record { character = c; more = n }

-- a byte that begins no entity stands for itself
abbrev pub front_of : ℕ → List ℕ → Front
front_of b w =
    cond (begins_with (bytes "&lt;") (b ∷ w)) (front 0x3C 3)
    (cond (begins_with (bytes "&gt;") (b ∷ w)) (front 0x3E 3)
    (cond (begins_with (bytes "&amp;") (b ∷ w)) (front 0x26 4)
    (cond (begins_with (bytes "&apos;") (b ∷ w)) (front 0x27 5) (cond (begins_with (bytes "&quot;") (b ∷ w)) (front 0x22 5) (front b 0)))))

-- the characters of a text after so many bytes, which the character before them takes
abbrev pub decode_from : ℕ → List ℕ → List ℕ
decode_from n [] = []
decode_from (suc n) (b ∷ w) = decode_from n w
decode_from zero (b ∷ w) = (front_of b w).character ∷ decode_from (front_of b w).more w

unfoldable pub decode : List ℕ → List ℕ
decode w = decode_from 0 w

-- how many bytes fewer the characters are
abbrev pub saved_in : List ℕ → ℕ
saved_in w = length w - length (decode w)

-- no byte is an `&`
abbrev pub no_entity : List ℕ → Bool
no_entity w = all_of (λ b. not (eqb b 0x26)) w
