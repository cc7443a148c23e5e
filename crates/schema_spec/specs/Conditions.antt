-- When and where refusals 2 to 7 apply to a schema text, and what the text gives: no machine is mentioned.
use mathlib.Core.List.{List, Memᴰ}
use Rattle.std.specs.Prelude.{◌≡◌, ℕ, ◌≤◌}
use Rattle.schema_spec.specs.Declarations.{Use, Declaration}
use Rattle.schema_spec.specs.Grammar.{SchemaText}
use Rattle.schema_spec.specs.Models.{uses_in}
use Rattle.schema_spec.specs.Schemas.{Schema, schema_of}
use Rattle.text_spec.specs.Limits.{max_declarations, max_model_names, max_schema_bytes}
use Rattle.text_spec.specs.Refusals.{Reason, bad_length, bad_byte, bad_schema, over_schema_limit, declared_twice, undeclared_in_model}
use Rattle.text_spec.specs.Texts.{SplitAt, LengthApplies, ByteApplies, Departs}

-- a text of the grammar, whatever it declares
abbrev pub Grammatical : List ℕ → Type 0
Grammatical text = (ds : List Declaration) × SchemaText text ds

-- 5. a declaration with 32 before it, or a name with 64 before it in its model
pub data OverLimit (ds : List Declaration) : ℕ → Type 0 where
  declaration : {i : ℕ} (s : SplitAt ds i) → max_declarations ≤ i → OverLimit ds s.here.place
  model_name : {i j : ℕ} (s : SplitAt ds i) (u : SplitAt (uses_in s.here.content) j) → max_model_names ≤ j → OverLimit ds u.here.place

-- 6. a declaration whose name is that of one before it
pub data Twice (ds : List Declaration) : ℕ → Type 0 where
  twice : {i : ℕ} (s : SplitAt ds i) (d : Declaration) → Memᴰ d s.before → d.name.name ≡ s.here.name.name → Twice ds s.here.name.place

-- 7. a name in a model that no declaration has
pub data Undeclared (ds : List Declaration) : ℕ → Type 0 where
  undeclared : (d : Declaration) (u : Use) → Memᴰ d ds → Memᴰ u (uses_in d.content) → ((e : Declaration) → Memᴰ e ds → e.name.name ≡ u.name → ⊥)
      → Undeclared ds u.place

pub data SchemaApplies (text : List ℕ) : Reason → ℕ → Type 0 where
  length-2 : {k : ℕ} → LengthApplies max_schema_bytes text k → SchemaApplies text bad_length k
  byte-3 : {k : ℕ} → ByteApplies text k → SchemaApplies text bad_byte k
  grammar-4 : {k : ℕ} → Departs Grammatical text k → SchemaApplies text bad_schema k
  limit-5 : {ds : List Declaration} {k : ℕ} → SchemaText text ds → OverLimit ds k → SchemaApplies text over_schema_limit k
  twice-6 : {ds : List Declaration} {k : ℕ} → SchemaText text ds → Twice ds k → SchemaApplies text declared_twice k
  undeclared-7 : {ds : List Declaration} {k : ℕ} → SchemaText text ds → Undeclared ds k → SchemaApplies text undeclared_in_model k

-- the schema that a text's derivation spells
pub data SchemaGives (text : List ℕ) : Schema → Type 0 where
  gives : {ds : List Declaration} → SchemaText text ds → SchemaGives text (schema_of ds)
