-- The record that the schema reader hands back: the accepted text in a normal form, with only the blanks that the grammar requires.
use Rattle.std.specs.Prelude.{Bool, true, false, cond, not, ◌&&◌, List, [], ◌∷◌, ◌++◌, ◌≡◌, ℕ, zero, suc, T, eqb}
use Rattle.schema_spec.specs.Declarations.{element_keyword}
use Rattle.schema_spec.specs.Reading.{read_schema}
use Rattle.schema_spec.specs.Schemas.{Schema}
use Rattle.text_spec.specs.Bytes.{is_blank, is_name}
use Rattle.text_spec.specs.Lists.{all_of, same_bytes}
use Rattle.text_spec.specs.Refusals.{Outcome, accepted, refused, is_accepted, result_or}

-- A declaration has two blanks that production 45 requires, after `<!ELEMENT` and after the name: they come first, as one space each.
-- `due`: how many of them are still to come; `in_run`: the byte before was a blank.
abbrev pub normal_from : ℕ → Bool → List ℕ → List ℕ
normal_from due in_run [] = []
normal_from zero in_run (b ∷ bs) = cond (is_blank b) (normal_from zero true bs) (cond (eqb b 0x3C) (b ∷ normal_from 2 false bs) (b ∷ normal_from zero false bs))
normal_from (suc due) true (b ∷ bs) = cond (is_blank b) (normal_from (suc due) true bs) (b ∷ normal_from (suc due) false bs)
normal_from (suc due) false (b ∷ bs) = cond (is_blank b) (0x20 ∷ normal_from due true bs) (b ∷ normal_from (suc due) false bs)

unfoldable pub normal : List ℕ → List ℕ
normal text = normal_from 0 false text

-- What it is: in each declaration one space after `<!ELEMENT` and one after the name, and no other blank.
pub data OnlyRequiredBlanks : List ℕ → Type 0 where
  no-declaration : OnlyRequiredBlanks []
  next-declaration : {r : List ℕ} (n w : List ℕ) → T (is_name n) → T (all_of (λ b. not (is_blank b)) w) → OnlyRequiredBlanks r
      → OnlyRequiredBlanks (element_keyword ++ (0x20 ∷ (n ++ (0x20 ∷ (w ++ (0x3E ∷ r))))))

-- the schema in a record
unfoldable pub schema_in : List ℕ → Schema
schema_in r = result_or [] (read_schema r)

-- the record that reading a text hands back: on refusal the empty one
abbrev pub record_by : {A : Type 0} → Outcome A → List ℕ → List ℕ
record_by (accepted s) r = r
record_by (refused f) r = []

unfoldable pub schema_record : List ℕ → List ℕ
schema_record text = record_by (read_schema text) (normal text)

-- Refusal 1: the records that the reader can produce are those that an accepted text gives.
pub data SchemaProducible : List ℕ → Type 0 where
  producible : {s : Schema} (text : List ℕ) → read_schema text ≡ accepted s → SchemaProducible (normal text)

-- The computing form: the record's own text is accepted and is in normal form.
unfoldable pub is_schema_record : List ℕ → Bool
is_schema_record r = is_accepted (read_schema r) && same_bytes (normal r) r
