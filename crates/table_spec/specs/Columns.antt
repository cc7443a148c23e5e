-- Tables as lent columns of numbers: the rows in their cells, and then zeros.
use Rattle.std.specs.Prelude.{Bool, ◌&&◌, List, [], ◌∷◌, map, ℕ, zero, suc, eqb, length, get_or}
use Rattle.schema_spec.specs.Names.{code_of}
use Rattle.table_spec.specs.Rows.{Row, Cells}
use Rattle.text_spec.specs.Cells.{padded}

-- a table as lent columns of numbers
pub record Columns : Type 0 where
  pub numbers : List ℕ
  pub names : List ℕ
  pub parents : List ℕ
  pub starts : List ℕ
  pub lengths : List ℕ
  pub decoded : List ℕ

abbrev pub columns : List ℕ → List ℕ → List ℕ → List ℕ → List ℕ → List ℕ → Columns
columns numbers names parents starts lengths decoded = record { numbers = numbers; names = names; parents = parents; starts = starts; lengths = lengths; decoded = decoded }

-- how many cells each column has
pub record Sizes : Type 0 where
  pub numbers : ℕ
  pub names : ℕ
  pub parents : ℕ
  pub starts : ℕ
  pub lengths : ℕ
  pub decoded : ℕ

abbrev pub all_of_size : ℕ → Sizes
all_of_size n = record { numbers = n; names = n; parents = n; starts = n; lengths = n; decoded = n }

abbrev pub sizes_of : Columns → Sizes
sizes_of c = record { numbers = length c.numbers; names = length c.names; parents = length c.parents; starts = length c.starts; lengths = length c.lengths; decoded = length c.decoded }

-- columns of unequal length are refused by 1
abbrev pub equal_sizes : Sizes → Bool
equal_sizes z = eqb z.names z.numbers && (eqb z.parents z.numbers && (eqb z.starts z.numbers && (eqb z.lengths z.numbers && eqb z.decoded z.numbers)))

-- rows in columns, and then zeros
abbrev pub columns_of : Sizes → List Row → Columns
columns_of z rows =
    record {
      numbers = padded z.numbers (map (λ r. r.number) rows);
      names = padded z.names (map (λ r. code_of r.name) rows);
      parents = padded z.parents (map (λ r. r.parent) rows);
      starts = padded z.starts (map (λ r. r.start) rows);
      lengths = padded z.lengths (map (λ r. r.size) rows);
      decoded = padded z.decoded (map (λ r. r.decoded) rows);
    }

-- the first rows of lent columns, as many as are said to be rows
abbrev pub cells_at : Columns → ℕ → Cells
cells_at c i =
    record { number = get_or c.numbers i 0; name = get_or c.names i 0; parent = get_or c.parents i 0; start = get_or c.starts i 0; size = get_or c.lengths i 0; decoded = get_or c.decoded i 0 }

abbrev pub cells_from : Columns → ℕ → ℕ → List Cells
cells_from c i zero = []
cells_from c i (suc n) = cells_at c i ∷ cells_from c (suc i) n
