-- The columns of a table's rows, and what holds of those of a well-formed table whose names have codes.
use mathlib.Core.List.Memᴰ.{head as here}
use mathlib.Core.List.Memᴰ.{tail as there}
use Rattle.std.specs.Prelude.{List, [], ◌∷◌, map, ◌≡◌, refl, ℕ, zero, suc, ◌+◌, ◌<◌, ◌≤◌, T, length, get_or}
use Rattle.std.proofs.Common.{sym, ap, ◌∙◌, arith}
use Rattle.std.proofs.lemmas.List.{length-map}
use Rattle.schema_spec.specs.Names.{Name, element, text, code_of}
use Rattle.schema_spec.specs.Types.{Types}
use Rattle.table_laws.specs.Codes.{HasCode, NamesCoded}
use Rattle.table_laws.specs.Limits.{rows_few}
use Rattle.table_laws.specs.Parents.{ParentsBefore, nodes-placed}
use Rattle.table_spec.specs.Rows.{Row}
use Rattle.table_spec.specs.Tables.{well_formed}
use Rattle.text_spec.specs.Limits.{max_declarations, max_nodes}

-- ---- definitions
abbrev pub parents_of : List Row → List ℕ
parents_of rows = map (λ r. r.parent) rows

abbrev pub names_of : List Row → List Name
names_of rows = map (λ r. r.name) rows

abbrev pub numbers_of : List Row → List ℕ
numbers_of rows = map (λ r. r.number) rows

-- the column of the rows' names
abbrev pub codes_of : List Row → List ℕ
codes_of rows = map code_of (names_of rows)

-- a column of codes that names can have
abbrev pub Coded : List ℕ → Type 0
Coded codes = (r : ℕ) → get_or codes r 0 < max_declarations + max_declarations

-- the columns of a table that passes refusal 1, as many cells of each as it has rows
pub record TestedColumns (numbers codes ps : List ℕ) : Type 0 where
  pub before : ParentsBefore ps
  pub coded : Coded codes
  pub names-size : length codes ≡ length ps
  pub numbers-size : length numbers ≡ length ps
  pub few : length ps ≤ max_nodes

-- ---- laws
pub codes-map : (rows : List Row) → codes_of rows ≡ map (λ r. code_of r.name) rows
codes-map [] = refl
codes-map (r ∷ rows) = ap (λ (l : List ℕ). code_of r.name ∷ l) (codes-map rows)

code-small : (n : Name) → HasCode n → code_of n < max_declarations + max_declarations
code-small (element e) h = omega arith
code-small (text e) h = omega arith

codes-small : (rows : List Row) → NamesCoded rows → Coded (codes_of rows)
codes-small [] h zero = omega arith
codes-small [] h (suc k) = omega arith
codes-small (r ∷ rows) h zero = code-small r.name (h r (here refl))
codes-small (r ∷ rows) h (suc k) = codes-small rows (λ q i. h q (there i)) k

pub tested-columns : (s : Types) (rows : List Row) → T (well_formed s rows) → NamesCoded rows → TestedColumns (numbers_of rows) (codes_of rows) (parents_of rows)
tested-columns s rows ok coded =
    record {
      before = (nodes-placed s [] rows ok).before;
      coded = codes-small rows coded;
      names-size = length-map (names_of rows) code_of ∙ length-map rows (λ r. r.name) ∙ sym (length-map rows (λ r. r.parent));
      numbers-size = length-map rows (λ r. r.number) ∙ sym (length-map rows (λ r. r.parent));
      few = omega (arith, length-map rows (λ r. r.parent), rows_few s rows ok);
    }
