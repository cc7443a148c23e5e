-- The bytes of an extract's fields.
use Rattle.std.specs.Prelude.{List, [], ◌∷◌, ◌++◌, ◌≡◌, refl, ℕ, ◌+◌, ◌/◌, ◌%◌, ◌≤◌, length, set}
use Rattle.std.proofs.Common.{ap, ◌∙◌, arith}
use Rattle.extract_spec.specs.Fields.{two_bytes, field, element_tag, text_tag, count_tag, row_field}
use Rattle.extract_writer.specs.declared.writers.Writer.{Writer}
use Rattle.extract_writer.specs.writers.Writers.{stored, Puts, stored-after, puts-then, puts-as, one-stored}
use Rattle.schema_spec.specs.Names.{element, text}
use Rattle.table_spec.specs.Rows.{characters_by}
use Rattle.text_spec.specs.Limits.{max_text_bytes}

-- the tag, the length and the two numbers that a row's field begins with
abbrev pub head : ℕ → ℕ → ℕ → ℕ → List ℕ
head tag size number parent = tag ∷ (two_bytes size ++ (two_bytes number ++ two_bytes parent))

-- the characters of a whole text, by their number
abbrev pub whole_characters : ℕ → List ℕ → List ℕ
whole_characters decoded w = characters_by (length w) decoded w

-- a text's field can be written at a place: it has so many characters, and there is room for them
pub record TextPass (w : List ℕ) (decoded : ℕ) (out : List ℕ) (at : ℕ) : Type 0 where
  pub short : decoded ≤ max_text_bytes
  pub spelt : length (whole_characters decoded w) ≡ decoded
  pub room : at + 7 + decoded ≤ length out

-- ---- the bytes on their own
-- two bytes
pub two-stored : (o : List ℕ) (k n : ℕ) → set (set o k (n / 256 % 256)) (k + 1) (n % 256) ≡ stored o k (two_bytes n)
two-stored o k n =
    ap (λ (u : List ℕ). set u (k + 1) (n % 256)) (one-stored o k (n / 256 % 256)) ∙ one-stored (stored o k ((n / 256 % 256) ∷ [])) (k + 1) (n % 256)
    ∙ stored-after o k ((n / 256 % 256) ∷ []) ((n % 256) ∷ []) (k + 1) refl

module _ (o : List ℕ) (k : ℕ) where
  -- a tag, and a number
  tag-stored : (tag size : ℕ) (x : List ℕ) → x ≡ stored (set o k tag) (k + 1) (two_bytes size) → x ≡ stored o k (tag ∷ two_bytes size)
  tag-stored tag size x d = d ∙ ap (λ (u : List ℕ). stored u (k + 1) (two_bytes size)) (one-stored o k tag) ∙ stored-after o k (tag ∷ []) (two_bytes size) (k + 1) refl

  pub head-stored : (tag size number parent : ℕ) (x y z : List ℕ) → x ≡ stored (set o k tag) (k + 1) (two_bytes size) → y ≡ stored x (k + 3) (two_bytes number)
      → z ≡ stored y (k + 5) (two_bytes parent) → z ≡ stored o k (head tag size number parent)
  head-stored tag size number parent x y z d e f =
      f
      ∙ ap (λ (u : List ℕ). stored u (k + 5) (two_bytes parent)) (e ∙ ap (λ (u : List ℕ). stored u (k + 3) (two_bytes number)) (tag-stored tag size x d)
      ∙ stored-after o k (tag ∷ two_bytes size) (two_bytes number) (k + 3) refl)
      ∙ stored-after o k (tag ∷ (two_bytes size ++ two_bytes number)) (two_bytes parent) (k + 5) refl

  pub element-stored : (e number parent : ℕ) (x : List ℕ) → x ≡ stored o k (head element_tag 5 number parent) → set x (k + 7) e ≡ stored o k (row_field (element e) number parent [])
  element-stored e number parent x d =
      ap (λ (u : List ℕ). set u (k + 7) e) d ∙ one-stored (stored o k (head element_tag 5 number parent)) (k + 7) e
      ∙ stored-after o k (head element_tag 5 number parent) (e ∷ []) (k + 7) refl

  pub text-stored : (number parent size : ℕ) (w x y : List ℕ) → length w ≡ size → x ≡ stored o k (head text_tag (size + 4) number parent) → y ≡ stored x (k + 7) w
      → y ≡ stored o k (row_field (text 0) number parent w)
  text-stored number parent size w x y e d f =
      let z : size + 4 ≡ length (two_bytes number ++ (two_bytes parent ++ w)) = omega arith in
      f ∙ ap (λ (u : List ℕ). stored u (k + 7) w) d ∙ stored-after o k (head text_tag (size + 4) number parent) w (k + 7) refl
      ∙ ap (λ (n : ℕ). stored o k (head text_tag n number parent ++ w)) z

  pub count-stored : (n : ℕ) (x y : List ℕ) → x ≡ stored (set o k count_tag) (k + 1) (two_bytes 2) → y ≡ stored x (k + 3) (two_bytes n)
      → y ≡ stored o k (field count_tag (two_bytes n))
  count-stored n x y d f =
      f ∙ ap (λ (u : List ℕ). stored u (k + 3) (two_bytes n)) (tag-stored count_tag 2 x d) ∙ stored-after o k (count_tag ∷ two_bytes 2) (two_bytes n) (k + 3) refl

-- ---- what a writer puts
-- a text's field is its head and its characters
pub text-puts : {a b c : Writer} (number parent size : ℕ) (w : List ℕ) → length w ≡ size → Puts a (head text_tag (size + 4) number parent) b → Puts b w c
    → Puts a (row_field (text 0) number parent w) c
text-puts number parent size w e p q =
    let z : size + 4 ≡ length (two_bytes number ++ (two_bytes parent ++ w)) = omega arith in
    puts-as (ap (λ (n : ℕ). head text_tag n number parent ++ w) z) (puts-then p q)
