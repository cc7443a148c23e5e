-- One row more in the columns is one row more in what they hold.
use Rattle.std.specs.Prelude.{Bool, true, false, cond, ◌&&◌, List, [], ◌∷◌, ◌++◌, map, ◌≡◌, refl, ℕ, zero, suc, ◌≤◌, ◌<◌, T, eqb, ltb, length, set}
use Rattle.std.proofs.lemmas.List.{map-append, length-map}
use Rattle.std.proofs.Common.{sym, ap, ◌∙◌, arith, lt-ltb, le-ltb, ltb-true, ltb-false, eqb-true, length-set}
use Rattle.cells.specs.lent.Columns.{same-columns}
use Rattle.cells.specs.columns.Columns.{EqualColumns, put, with_row}
use Rattle.schema_spec.specs.Names.{code_of}
use Rattle.table_spec.specs.Columns.{Columns, Sizes, sizes_of, equal_sizes, columns_of, columns}
use Rattle.table_spec.specs.Rows.{Row, Cells, cells_of}
use Rattle.text_laws.specs.Cells.{padded-length}
use Rattle.text_laws.specs.Tests.{and_cases, true_of}
use Rattle.text_spec.specs.Cells.{padded}

-- ---- one value more in a column
padded-in : (n : ℕ) (xs : List ℕ) (x : ℕ) → length xs < n → set (padded n xs) (length xs) x ≡ padded n (xs ++ (x ∷ []))
padded-in zero xs x h = absurd (omega arith)
padded-in (suc n) [] x h = refl
padded-in (suc n) (y ∷ xs) x h = ap (λ (l : List ℕ). y ∷ l) (padded-in n xs x (omega arith))

padded-out : (n : ℕ) (xs : List ℕ) (x : ℕ) → n ≤ length xs → padded n xs ≡ padded n (xs ++ (x ∷ []))
padded-out zero xs x h = refl
padded-out (suc n) [] x h = absurd (omega arith)
padded-out (suc n) (y ∷ xs) x h = ap (λ (l : List ℕ). y ∷ l) (padded-out n xs x (omega arith))

pub put-padded : (n : ℕ) (xs : List ℕ) (x : ℕ) → put (padded n xs) (length xs) x ≡ padded n (xs ++ (x ∷ []))
put-padded n xs x = ap (λ (k : ℕ). cond (ltb (length xs) k) (set (padded n xs) (length xs) x) (padded n xs)) (padded-length n xs) ∙ pick (ltb (length xs) n) refl
  where
    pick : (b : Bool) → ltb (length xs) n ≡ b → cond b (set (padded n xs) (length xs) x) (padded n xs) ≡ padded n (xs ++ (x ∷ []))
    pick true e = padded-in n xs x (ltb-true (length xs) n e)
    pick false e = padded-out n xs x (ltb-false (length xs) n e)

-- a store in a column that has the cell, and none in one that has not
put_in : (column : List ℕ) (r x : ℕ) → r < length column → set column r x ≡ put column r x
put_in column r x h = rw (lt-ltb r (length column) h)

put-out : (column : List ℕ) (r x : ℕ) → length column ≤ r → column ≡ put column r x
put-out column r x h = rw (le-ltb r (length column) h)

put-length : (column : List ℕ) (r x : ℕ) → length (put column r x) ≡ length column
put-length column r x = pick (ltb r (length column))
  where
    pick : (b : Bool) → length (cond b (set column r x) column) ≡ length column
    pick true = length-set column r x
    pick false = refl

-- ---- one row more
module _ (c : Columns) (r : ℕ) (x : Cells) (e : EqualColumns c) where
  pub row_in : r < length c.numbers
      → columns (set c.numbers r x.number) (set c.names r x.name) (set c.parents r x.parent) (set c.starts r x.start) (set c.lengths r x.size)
      (set c.decoded r x.decoded)
      ≡ with_row c r x
  row_in h =
      same-columns (put_in c.numbers r x.number h) (put_in c.names r x.name (omega (arith, e.of-names))) (put_in c.parents r x.parent (omega (arith, e.of-parents)))
      (put_in c.starts r x.start (omega (arith, e.of-starts))) (put_in c.lengths r x.size (omega (arith, e.of-lengths)))
      (put_in c.decoded r x.decoded (omega (arith, e.of-decoded)))

  pub row_out : length c.numbers ≤ r → c ≡ with_row c r x
  row_out h =
      same-columns (put-out c.numbers r x.number h) (put-out c.names r x.name (omega (arith, e.of-names))) (put-out c.parents r x.parent (omega (arith, e.of-parents)))
      (put-out c.starts r x.start (omega (arith, e.of-starts))) (put-out c.lengths r x.size (omega (arith, e.of-lengths)))
      (put-out c.decoded r x.decoded (omega (arith, e.of-decoded)))

-- the column of some field
field-more : (field : Row → ℕ) (n : ℕ) (rows : List Row) (row : Row)
    → put (padded n (map field rows)) (length rows) (field row) ≡ padded n (map field (rows ++ (row ∷ [])))
field-more field n rows row =
    ap (λ (k : ℕ). put (padded n (map field rows)) k (field row)) (sym (length-map rows field))
    ∙ put-padded n (map field rows) (field row)
    ∙ ap (padded n) (sym (map-append field rows (row ∷ [])))

pub columns-more : (z : Sizes) (rows : List Row) (row : Row) → with_row (columns_of z rows) (length rows) (cells_of row) ≡ columns_of z (rows ++ (row ∷ []))
columns-more z rows row =
    same-columns (field-more (λ r. r.number) z.numbers rows row) (field-more (λ r. code_of r.name) z.names rows row) (field-more (λ r. r.parent) z.parents rows row)
    (field-more (λ r. r.start) z.starts rows row) (field-more (λ r. r.size) z.lengths rows row) (field-more (λ r. r.decoded) z.decoded rows row)

-- the columns stay of equal length
pub equal-more : (c : Columns) (r number name parent start size decoded : ℕ) → EqualColumns c
    → EqualColumns (with_row c r (record { number = number; name = name; parent = parent; start = start; size = size; decoded = decoded }))
equal-more c r number name parent start size decoded e =
    record {
      of-names = put-length c.names r name ∙ e.of-names ∙ sym (put-length c.numbers r number);
      of-parents = put-length c.parents r parent ∙ e.of-parents ∙ sym (put-length c.numbers r number);
      of-starts = put-length c.starts r start ∙ e.of-starts ∙ sym (put-length c.numbers r number);
      of-lengths = put-length c.lengths r size ∙ e.of-lengths ∙ sym (put-length c.numbers r number);
      of-decoded = put-length c.decoded r decoded ∙ e.of-decoded ∙ sym (put-length c.numbers r number);
    }

-- by the test of columns of unequal length (1)
pub equal-columns : (c : Columns) → T (equal_sizes (sizes_of c)) → EqualColumns c
equal-columns c t =
    let n = length c.numbers in
    let last = eqb (length c.lengths) n && eqb (length c.decoded) n in
    let a = and_cases (eqb (length c.names) n) (eqb (length c.parents) n && (eqb (length c.starts) n && last)) t in
    let b = and_cases (eqb (length c.parents) n) (eqb (length c.starts) n && last) a.1 in
    let d = and_cases (eqb (length c.starts) n) last b.1 in
    let f = and_cases (eqb (length c.lengths) n) (eqb (length c.decoded) n) d.1 in
    record {
      of-names = same c.names a.0;
      of-parents = same c.parents b.0;
      of-starts = same c.starts d.0;
      of-lengths = same c.lengths f.0;
      of-decoded = same c.decoded f.1;
    }
  where
    same : (column : List ℕ) → T (eqb (length column) (length c.numbers)) → length column ≡ length c.numbers
    same column h = eqb-true (length column) (length c.numbers) (true_of (eqb (length column) (length c.numbers)) h)
