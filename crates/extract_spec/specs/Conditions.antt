-- When refusals 2 and 17 apply to an extract, and what it gives; what a cut keeps: no loop is mentioned.
use mathlib.Core.List.{List, [], ◌∷◌, Memᴰ}
use Rattle.std.specs.Prelude.{◌≡◌, ℕ}
use Rattle.extract_spec.specs.Fields.{write_extract, extract_rows}
use Rattle.schema_spec.specs.Names.{Names}
use Rattle.schema_spec.specs.Types.{Types}
use Rattle.table_spec.specs.Conditions.{WellFormedBeside}
use Rattle.table_spec.specs.Nodes.{Node, name_of, Above}
use Rattle.table_spec.specs.Rows.{Row, characters_of}
use Rattle.text_spec.specs.Refusals.{Reason, bad_length, bad_extract}

-- the bytes are the writing of a well-formed table, with texts of their own
pub record IsExtract (s : Types) (bs : List ℕ) : Type 0 where
  pub lent : List ℕ
  pub rows : List Row
  pub well_formed : WellFormedBeside s lent rows
  pub written : bs ≡ write_extract lent rows

pub data ExtractApplies (s : Types) (bs : List ℕ) : Reason → ℕ → Type 0 where
  length-2 : bs ≡ [] → ExtractApplies s bs bad_length 0
  extract-17 : (IsExtract s bs → ⊥) → ExtractApplies s bs bad_extract 0

-- Document 02, R-2: "Rows written and read return but for text starts and raw lengths."
pub record SameButRawText (q r : Row) : Type 0 where
  pub number : q.number ≡ r.number
  pub name : q.name ≡ r.name
  pub parent : q.parent ≡ r.parent
  pub decoded : q.decoded ≡ r.decoded

-- Two tables, each with its text, that are the same but for text starts and raw lengths. Document 02, R-2: "Extracts are compared from now on with the
-- decoded text."
pub data SameTables (lent lent' : List ℕ) : List Row → List Row → Type 0 where
  no_rows : SameTables lent lent' [] []
  next_row : {q r : Row} {qs rs : List Row} → SameButRawText q r → characters_of lent q ≡ characters_of lent' r → SameTables lent lent' qs rs
      → SameTables lent lent' (q ∷ qs) (r ∷ rs)

-- the rows of an extract are those of the table that it is the writing of, each text at its characters in the extract
pub data ExtractGives (s : Types) (bs : List ℕ) : List Row → Type 0 where
  gives : (x : IsExtract s bs) → ExtractGives s bs (extract_rows x.lent x.rows)

-- Cutting: a node is kept exactly when its name and the names of all its ancestors are in the set.
pub record Kept (set : Names) (y : Node) : Type 0 where
  pub own : Memᴰ (name_of y) set
  pub above : (x : Node) → Above x y → Memᴰ (name_of x) set
