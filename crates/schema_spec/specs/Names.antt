-- Names of the type system, sets of them, and their 64-bit encoding.
use Rattle.std.specs.Prelude.{Bool, true, false, cond, List, [], ◌∷◌, ◌++◌, map, ℕ, suc, ◌+◌, ◌-◌, ◌/◌, ◌%◌, ◌^◌, eqb, ltb}
use Rattle.std.proofs.Math.Option.{Option, none, some}
use Rattle.schema_spec.specs.Schemas.{Schema, is_pcdata}
use Rattle.text_spec.specs.Limits.{max_declarations}
use Rattle.text_spec.specs.Lists.{any_of, filter_by}

-- "Names of the type system are the elements, and one text name for each `(#PCDATA)` element", by the element's index
pub data Name : Type 0 where
  element : ℕ → Name
  text : ℕ → Name

abbrev pub same_name : Name → Name → Bool
same_name (element a) (element b) = eqb a b
same_name (element a) (text b) = false
same_name (text a) (element b) = false
same_name (text a) (text b) = eqb a b

abbrev pub is_text : Name → Bool
is_text (element a) = false
is_text (text a) = true

abbrev pub elements_from : ℕ → Schema → List Name
elements_from k [] = []
elements_from k (e ∷ es) = element k ∷ elements_from (suc k) es

abbrev pub texts_from : ℕ → Schema → List Name
texts_from k [] = []
texts_from k (e ∷ es) = cond (is_pcdata e.content) (text k ∷ texts_from (suc k) es) (texts_from (suc k) es)

-- all names of a schema: the elements in order, then the text names in order
unfoldable pub names_of : Schema → List Name
names_of s = elements_from 0 s ++ texts_from 0 s

-- A set of names is a list of them.
abbrev pub Names : Type 0
Names = List Name

abbrev pub has : Name → Names → Bool
has n s = any_of (same_name n) s

-- those of the first set that are in the second
abbrev pub within : Names → Names → Names
within a b = filter_by (λ n. has n b) a

-- "A set of names is 64 bits: bit e for element e, bit 32+e for its text name"
abbrev pub code_of : Name → ℕ
code_of (element e) = e
code_of (text e) = max_declarations + e

-- the name with this code, if there can be one
abbrev pub name_of_code : ℕ → Option Name
name_of_code c = cond (ltb c max_declarations) (some (element c)) (cond (ltb c (max_declarations + max_declarations)) (some (text (c - max_declarations))) none)

abbrev pub has_bit : ℕ → ℕ → Bool
has_bit word i = eqb (word / (2 ^ i) % 2) 1

-- "bits without a name mean nothing": a set that is handed in, in the schema's order
unfoldable pub set_of_word : Names → ℕ → Names
set_of_word names word = filter_by (λ n. has_bit word (code_of n)) names

abbrev pub sum_of : List ℕ → ℕ
sum_of [] = 0
sum_of (x ∷ xs) = x + sum_of xs

-- a set that is handed back: the bits of those of all names that are in it
unfoldable pub word_of_set : Names → Names → ℕ
word_of_set names s = sum_of (map (λ n. 2 ^ code_of n) (filter_by (λ n. has n s) names))
