-- A table answered in the first cells of columns of zeros is one answered for so many row structs.
use Rattle.std.specs.Prelude.{Bool, true, false, Result, Err, List, [], ◌∷◌, ◌++◌, map, ◌≡◌, refl, ℕ, zero, suc, ◌≤◌, ltb, get_or, take, drop, replicate}
use Rattle.std.proofs.Math.Path.{sym, ap}
use Rattle.std.proofs.Common.{ap₂, ◌∙◌, arith, lt-ltb, le-ltb, ltb-true, ltb-false, eq-eqb, length-take-le}
use Rattle.std.proofs.Math.ListN.{length, get_or-eq_default}
use Rattle.std.proofs.lemmas.List.{length-map, length-replicate}
use Rattle.cells.specs.lent.Columns.{same-columns}
use Rattle.cells.specs.verdicts.Verdicts.{verdict}
use Rattle.library_spec.specs.Calls.{rows_after, columns_after, structs_after, in_columns}
use Rattle.row_structs.specs.Structs.{empty_cells, cell_count, zeros, empty_columns, cell_of, AnsweredFor}
use Rattle.schema_spec.specs.Names.{code_of}
use Rattle.table_spec.specs.Columns.{Columns, Sizes, all_of_size, equal_sizes, sizes_of, columns_of, cells_at, cells_from, columns}
use Rattle.table_spec.specs.Rows.{Row, Cells}
use Rattle.text.specs.declared.refusals.Reason.TheVariants.{BadRecord}
use Rattle.text.specs.declared.refusals.Refusal.{Refusal}
use Rattle.text.specs.refusals.Refusals.{refusal}
use Rattle.text_laws.specs.Cells.{padded-zeros}
use Rattle.text_spec.specs.Calls.{in_room}
use Rattle.text_spec.specs.Cells.{padded}
use Rattle.text_spec.specs.Limits.{max_nodes}
use Rattle.text_spec.specs.Refusals.{Outcome, refused, at, bad_record}

-- ---- definitions
-- the rows of an outcome
abbrev pub rows_in : Outcome (List Row) → List Row
rows_in o = rows_after (λ rows. rows) o

-- they are no more than so many structs, nor than a table can have
pub record Fitting (o : Outcome (List Row)) (n : ℕ) : Type 0 where
  pub room : length (rows_in o) ≤ n
  pub few : length (rows_in o) ≤ max_nodes

-- the first cells of a column of zeros
abbrev pub zeros_in : ℕ → ℕ → List ℕ
zeros_in n k = take k (zeros n)

-- the sizes of the first cells of columns of zeros
abbrev pub part_sizes : ℕ → Sizes
part_sizes k = sizes_of (columns (zeros_in cell_count k) (zeros_in cell_count k) (zeros_in cell_count k) (zeros_in cell_count k) (zeros_in cell_count k) (zeros_in cell_count k))

-- the first cells of columns of zeros written
abbrev pub front : ℕ → List ℕ → List ℕ
front k xs = xs ++ drop k (zeros cell_count)

-- ---- the cell of a row
pub cell-low : (n : ℕ) → cell_of n ≤ max_nodes
cell-low n = omega arith

-- ---- 18
-- rows that a table can have, in columns for so many structs
module _ (n : ℕ) (rows : List Row) (few : length rows ≤ max_nodes) where
  pub room-fitting : Fitting (in_columns (all_of_size n) rows) n
  room-fitting = by (ltb n (length rows)) refl
    where
      by : (b : Bool) → ltb n (length rows) ≡ b → Fitting (in_room b rows) n
      by true e = record { room = omega arith; few = omega arith }
      by false e = record { room = ltb-false n (length rows) e; few = few }

  -- the structs past those of a table make no difference
  pub room-same : in_columns (all_of_size (cell_of n)) rows ≡ in_columns (all_of_size n) rows
  room-same = ap (λ (b : Bool). in_room b rows) (by (ltb n (length rows)) refl)
    where
      by : (b : Bool) → ltb n (length rows) ≡ b → ltb (cell_of n) (length rows) ≡ b
      by true e = let l = ltb-true n (length rows) e in lt-ltb (cell_of n) (length rows) (omega arith)
      by false e = let l = ltb-false n (length rows) e in le-ltb (cell_of n) (length rows) (omega arith)

-- columns of one size pass their test
pub equal-sizes : (n : ℕ) → equal_sizes (all_of_size n) ≡ true
equal-sizes n = rw (eq-eqb n n refl)

-- ---- a column
-- a value of an answer that fits, in any number of cells
padded-at : (n : ℕ) (xs : List ℕ) (k : ℕ) → length xs ≤ n → get_or (padded n xs) k 0 ≡ get_or xs k 0
padded-at zero [] k h = refl
padded-at zero (x ∷ xs) k h = absurd (omega arith)
padded-at (suc n) [] zero h = refl
padded-at (suc n) [] (suc k) h = padded-at n [] k (omega arith)
padded-at (suc n) (x ∷ xs) zero h = refl
padded-at (suc n) (x ∷ xs) (suc k) h = padded-at n xs k (omega arith)

-- an answer in the first cells, and zeros past those
padded-front : (k n : ℕ) (xs : List ℕ) → length xs ≤ k → k ≤ n → padded k xs ++ drop k (replicate n 0) ≡ padded n xs
padded-front zero n [] h l = sym (padded-zeros n)
padded-front zero n (x ∷ xs) h l = absurd (omega arith)
padded-front (suc k) zero xs h l = absurd (omega arith)
padded-front (suc k) (suc n) [] h l = ap (λ (r : List ℕ). 0 ∷ r) (padded-front k n [] (omega arith) (omega arith))
padded-front (suc k) (suc n) (x ∷ xs) h l = ap (λ (r : List ℕ). x ∷ r) (padded-front k n xs (omega arith) (omega arith))

-- the cells up to a row's are within a column of zeros, and so many
pub cell-inside : (k n : ℕ) → k ≡ cell_of n → k ≤ cell_count
cell-inside k n e = omega (arith, e)

zeros-length : (n k : ℕ) → k ≤ n → k ≡ length (zeros_in n k)
zeros-length n k l = sym (length-take-le k (zeros n) (omega (arith, length-replicate {A = ℕ} n 0)))

pub cell-part : (k n : ℕ) → k ≡ cell_of n → k ≡ length (zeros_in cell_count k)
cell-part k n e = zeros-length cell_count k (cell-inside k n e)

pub part-sizes : (k n : ℕ) → k ≡ cell_of n → part_sizes k ≡ all_of_size k
part-sizes k n e = ap all_of_size (sym (cell-part k n e))

-- ---- rows in columns
module _ (rows : List Row) where
  abbrev bare : Columns
  bare = columns (map (λ r. r.number) rows) (map (λ r. code_of r.name) rows) (map (λ r. r.parent) rows) (map (λ r. r.start) rows) (map (λ r. r.size) rows) (map (λ r. r.decoded) rows)

  mapped : (f : Row → ℕ) (n : ℕ) → length rows ≤ n → length (map f rows) ≤ n
  mapped f n l = omega (arith, length-map rows f)

  cells-bare : (n : ℕ) → length rows ≤ n → (i : ℕ) → cells_at (columns_of (all_of_size n) rows) i ≡ cells_at bare i
  cells-bare n l i =
      rw (
        padded-at n (map (λ r. r.number) rows) i (mapped (λ r. r.number) n l),
        padded-at n (map (λ r. code_of r.name) rows) i (mapped (λ r. code_of r.name) n l),
        padded-at n (map (λ r. r.parent) rows) i (mapped (λ r. r.parent) n l),
        padded-at n (map (λ r. r.start) rows) i (mapped (λ r. r.start) n l),
        padded-at n (map (λ r. r.size) rows) i (mapped (λ r. r.size) n l),
        padded-at n (map (λ r. r.decoded) rows) i (mapped (λ r. r.decoded) n l),
      )

  past-bare : (i : ℕ) → length rows ≤ i → cells_at bare i ≡ empty_cells
  past-bare i l =
      rw (
        get_or-eq_default (map (λ r. r.number) rows) 0 (mapped (λ r. r.number) i l),
        get_or-eq_default (map (λ r. code_of r.name) rows) 0 (mapped (λ r. code_of r.name) i l),
        get_or-eq_default (map (λ r. r.parent) rows) 0 (mapped (λ r. r.parent) i l),
        get_or-eq_default (map (λ r. r.start) rows) 0 (mapped (λ r. r.start) i l),
        get_or-eq_default (map (λ r. r.size) rows) 0 (mapped (λ r. r.size) i l),
        get_or-eq_default (map (λ r. r.decoded) rows) 0 (mapped (λ r. r.decoded) i l),
      )

from-same : (c d : Columns) → ((i : ℕ) → cells_at c i ≡ cells_at d i) → (i n : ℕ) → cells_from c i n ≡ cells_from d i n
from-same c d h i zero = refl
from-same c d h i (suc n) = ap₂ (λ (x : Cells) (l : List Cells). x ∷ l) (h i) (from-same c d h (suc i) n)

-- ---- a table that is answered
module _ (o : Outcome (List Row)) (n : ℕ) (f : Fitting o n) (v : Result ℕ Refusal) (answer : v ≡ verdict o) where
  in_cells : (m : ℕ) → max_nodes ≤ m → (c : Columns) → c ≡ columns_of (all_of_size m) (rows_in o) → AnsweredFor o n v c
  unfolding structs_after columns_after
  in_cells m l c e =
      let enough : length (rows_in o) ≤ m = omega (arith, f.few) in
      record {
        answer = answer;
        cells =
            ap (λ (x : Columns). cells_from x 0 n) e
            ∙ from-same (columns_of (all_of_size m) (rows_in o)) (columns_of (all_of_size n) (rows_in o)) (λ i. cells-bare (rows_in o) m enough i ∙ sym (cells-bare (rows_in o) n f.room i)) 0 n;
        past = ap (λ (x : Columns). cells_at x max_nodes) e ∙ cells-bare (rows_in o) m enough max_nodes ∙ past-bare (rows_in o) max_nodes f.few;
      }

  -- in the first cells, as many as there are structs and rows in a table
  pub in-front : (k : ℕ) → k ≡ cell_of n → (numbers names parents starts lengths decoded : List ℕ) → columns numbers names parents starts lengths decoded ≡ columns_after (all_of_size k) (λ rows. rows) o
      → AnsweredFor o n v (columns (front k numbers) (front k names) (front k parents) (front k starts) (front k lengths) (front k decoded))
  unfolding columns_after
  in-front k s numbers names parents starts lengths decoded e =
      let rows = rows_in o in
      let room = f.room in
      let few = f.few in
      let l : length rows ≤ k = omega (arith, s) in
      let h : k ≤ cell_count = omega (arith, s) in
      let at : (g : Row → ℕ) → front k (padded k (map g rows)) ≡ padded cell_count (map g rows) = λ g. padded-front k cell_count (map g rows) (mapped rows g k l) h in
      in_cells cell_count (omega arith) _
      (ap (λ (x : Columns). columns (front k x.numbers) (front k x.names) (front k x.parents) (front k x.starts) (front k x.lengths) (front k x.decoded)) e
      ∙ same-columns (at (λ r. r.number)) (at (λ r. code_of r.name)) (at (λ r. r.parent)) (at (λ r. r.start)) (at (λ r. r.size)) (at (λ r. r.decoded)))

-- refusal 1: zeros alone
pub in-zeros : (n : ℕ) → AnsweredFor (refused (at bad_record 0)) n (Err (refusal BadRecord 0)) empty_columns
in-zeros n =
    let clear = sym (padded-zeros cell_count) in
    in_cells (refused (at bad_record 0)) n (record { room = omega arith; few = omega arith }) (Err (refusal BadRecord 0)) refl cell_count (omega arith) _ (same-columns clear clear clear clear clear clear)
