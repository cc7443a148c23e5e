-- Rows whose names have codes: the code gives the name again, and the columns are as keeping rows asks.
use mathlib.Core.List.Memᴰ.{head as here}
use mathlib.Core.List.Memᴰ.{tail as there}
use mathlib.Core.List.{List, [], ◌∷◌, map, Memᴰ as In}
use Rattle.std.specs.Prelude.{◌≡◌, refl, ℕ, zero, suc, ◌<◌, T, get_or}
use Rattle.std.proofs.Common.{sym, arith}
use Rattle.std.proofs.lemmas.List.{length-map}
use Rattle.kept_rows.specs.Kept.{code_count, KeptColumns}
use Rattle.kept_rows.specs.laws.Cut.{columns_in}
use Rattle.names.specs.SetLaws.{element-every, text-every}
use Rattle.names.specs.Sets.{every_name}
use Rattle.names.specs.codes.Codes.{name_of_code}
use Rattle.names.specs.codes.Laws.{code_below, name-of-its-code}
use Rattle.schema_spec.specs.Names.{Name, element, text, code_of}
use Rattle.schema_spec.specs.Types.{Types}
use Rattle.table_laws.specs.Codes.{HasCode, NamesCoded}
use Rattle.table_laws.specs.Limits.{rows_few as few-rows}
use Rattle.table_laws.specs.Parents.{nodes-placed}
use Rattle.table_laws.specs.WellFormed.{well-formed-alone}
use Rattle.table_spec.specs.Rows.{Row}
use Rattle.table_spec.specs.Tables.{well_formed, well_formed_with}

-- ---- definitions
-- each row's name is that of its code
abbrev pub CodesNamed : List Row → Type 0
CodesNamed rows = (r : Row) → In r rows → name_of_code (code_of r.name) ≡ r.name

-- ---- laws
name-every : (n : Name) → HasCode n → In n every_name
name-every (element e) h = element-every e h
name-every (text e) h = text-every e h

pub codes-named : (rows : List Row) → NamesCoded rows → CodesNamed rows
codes-named rows coded r i = sym (name-of-its-code r.name (name-every r.name (coded r i)))

codes-low : (rows : List Row) → NamesCoded rows → (k : ℕ) → get_or (map (λ r. code_of r.name) rows) k 0 < code_count
codes-low [] h zero = omega arith
codes-low [] h (suc k) = omega arith
codes-low (r ∷ rows) h zero = code_below r.name (name-every r.name (h r (here refl)))
codes-low (r ∷ rows) h (suc k) = codes-low rows (λ q i. h q (there i)) k

module _ (s : Types) (lent : List ℕ) (rows : List Row) (ok : T (well_formed_with s lent rows)) (coded : NamesCoded rows) where
  alone : T (well_formed s rows)
  alone = well-formed-alone s lent rows ok

  pub kept-columns : KeptColumns (columns_in rows).names (columns_in rows).parents
  kept-columns =
      record {
        before = (nodes-placed s [] rows alone).before;
        coded = codes-low rows coded;
        size = omega (arith, length-map rows (λ r. code_of r.name), length-map rows (λ r. r.parent));
        few = omega (arith, few-rows s rows alone, length-map rows (λ r. r.parent));
      }
