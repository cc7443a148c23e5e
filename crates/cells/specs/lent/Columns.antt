-- The six columns that are lent for a table: their first cells, and columns cleared from a row on.
use Rattle.std.specs.Prelude.{List, [], ◌≡◌, ℕ, take}
use Rattle.cells.specs.lent.Cells.{Cleared, all-cleared}
use Rattle.table_spec.specs.Columns.{Columns, columns, sizes_of, columns_of}

-- the first n cells of each column
abbrev pub first_cells : ℕ → Columns → Columns
first_cells n c = columns (take n c.numbers) (take n c.names) (take n c.parents) (take n c.starts) (take n c.lengths) (take n c.decoded)

-- the cells past n rows are cleared
pub record ClearedFrom (x : Columns) (n : ℕ) (y : Columns) : Type 0 where
  pub numbers : Cleared x.numbers n y.numbers
  pub names : Cleared x.names n y.names
  pub parents : Cleared x.parents n y.parents
  pub starts : Cleared x.starts n y.starts
  pub lengths : Cleared x.lengths n y.lengths
  pub decoded : Cleared x.decoded n y.decoded

-- tables that agree in each column
pub same-columns : {a b d e f g a' b' d' e' f' g' : List ℕ} → a ≡ a' → b ≡ b' → d ≡ d' → e ≡ e' → f ≡ f' → g ≡ g' → columns a b d e f g ≡ columns a' b' d' e' f' g'
same-columns p q r s t u = rw (p, q, r, s, t, u)

-- no row is left
pub columns-cleared : (x y : Columns) → ClearedFrom x 0 y → y ≡ columns_of (sizes_of x) []
columns-cleared x y w =
    same-columns (all-cleared x.numbers y.numbers w.numbers) (all-cleared x.names y.names w.names) (all-cleared x.parents y.parents w.parents)
    (all-cleared x.starts y.starts w.starts) (all-cleared x.lengths y.lengths w.lengths) (all-cleared x.decoded y.decoded w.decoded)
