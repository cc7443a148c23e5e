-- Fields of an extract, written and read: numbers in two bytes, one field, the fields of rows.
use mathlib.Core.List.{List, [], ◌∷◌, ◌++◌, Memᴰ as In}
use Rattle.std.specs.Prelude.{◌≡◌, refl, ℕ, zero, suc, ◌+◌, ◌/◌, ◌%◌, ◌<◌, ◌≤◌, leb, length}
use Rattle.std.proofs.Common.{◌∙◌, arith, le→leb, lit<, length-append, take_at}
use Rattle.std.proofs.Math.Seq.{drop-append-add, take-append_seam, drop-append_seam}
use Rattle.extract_spec.specs.Fields.{element_tag, text_tag, count_tag, two_bytes, field, row_field}
use Rattle.extract_spec.specs.Reading.{element_item, text_item, count_item, no_item, in_two, item_of, items_from}
use Rattle.schema_spec.specs.Names.{element, text}
use Rattle.text_laws.specs.Tests.{cond-true}
use Rattle.text_spec.specs.Lists.{part}

-- each number is a byte
abbrev pub AreBytes : List ℕ → Type 0
AreBytes bs = (b : ℕ) → In b bs → b < 256

-- a number written in two bytes is read back, and two bytes read are written back
pub two-bytes-read : (n : ℕ) → n < 65536 → in_two (n / 256 % 256) (n % 256) ≡ n
two-bytes-read n h = omega arith

pub two-bytes-written : (a b : ℕ) → a < 256 → b < 256 → two_bytes (in_two a b) ≡ a ∷ b ∷ []
two-bytes-written a b p q =
    let high : in_two a b / 256 % 256 ≡ a = omega arith in
    let low : in_two a b % 256 ≡ b = omega arith in
    cc

-- one field read, and what follows it
pub field-read : (fuel k tag : ℕ) (value rest : List ℕ) → length value < 65536
    → items_from (suc fuel) k (field tag value ++ rest) ≡ item_of tag (k + 3) value ∷ items_from fuel (k + 3 + length value) rest
field-read fuel k tag value rest h =
    let fits : length value ≤ length (value ++ rest) = omega (arith, length-append value rest) in
    rw (two-bytes-read (length value) h, take-append_seam value rest, drop-append_seam value rest)
    (cond-true (leb (length value) (length (value ++ rest))) (item_of tag (k + 3) value ∷ items_from fuel (k + 3 + length value) rest) (no_item ∷ []) (le→leb _ _ fits))

pub element-read : (fuel k number parent e : ℕ) (w rest : List ℕ) → number < 65536 → parent < 65536
    → items_from (suc fuel) k (row_field (element e) number parent w ++ rest)
    ≡ element_item number parent e ∷ items_from fuel (k + length (row_field (element e) number parent w)) rest
element-read fuel k number parent e w rest p q =
    let place : k + 3 + 5 ≡ k + 8 = omega arith in
    field-read fuel k element_tag (two_bytes number ++ (two_bytes parent ++ (e ∷ []))) rest (lit< tt) ∙ rw (two-bytes-read number p, two-bytes-read parent q, place)

pub text-read : (fuel k number parent e : ℕ) (w rest : List ℕ) → number < 65536 → parent < 65536 → length w < 65532
    → items_from (suc fuel) k (row_field (text e) number parent w ++ rest)
    ≡ text_item number parent (k + 3 + 4) (length w) ∷ items_from fuel (k + length (row_field (text e) number parent w)) rest
text-read fuel k number parent e w rest p q h =
    let place : k + 3 + suc (suc (suc (suc (length w)))) ≡ k + suc (suc (suc (suc (suc (suc (suc (length w))))))) = omega arith in
    field-read fuel k text_tag (two_bytes number ++ (two_bytes parent ++ w)) rest (omega arith) ∙ rw (two-bytes-read number p, two-bytes-read parent q, place)

pub nothing_read : (fuel k : ℕ) → items_from fuel k [] ≡ []
nothing_read zero k = refl
nothing_read (suc fuel) k = refl

pub count-read : (fuel k n : ℕ) → n < 65536 → items_from (suc fuel) k (field count_tag (two_bytes n)) ≡ count_item n ∷ []
count-read fuel k n h = field-read fuel k count_tag (two_bytes n) [] (lit< tt) ∙ rw (two-bytes-read n h, nothing_read)

-- a text's bytes stand seven bytes after its field's first
pub text-cut : (pre w rest : List ℕ) (tag high low a b c d k size : ℕ) → length pre ≡ k → length w ≡ size
    → part (k + 3 + 4) size (pre ++ (tag ∷ high ∷ low ∷ a ∷ b ∷ c ∷ d ∷ (w ++ rest))) ≡ w
text-cut pre w rest tag high low a b c d k size e l =
    let place : k + 3 + 4 ≡ length pre + 7 = omega arith in
    rw (place, drop-append-add pre (tag ∷ high ∷ low ∷ a ∷ b ∷ c ∷ d ∷ (w ++ rest)) 7) (take_at w rest size l)
