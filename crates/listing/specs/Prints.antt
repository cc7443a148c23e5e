-- The lines that are printed have room in the buffer.
use Rattle.std.specs.Prelude.{Bool, cond, ◌≡◌, ℕ, ◌≤◌, ◌<◌, eqb, get_or, take, replicate}
use Rattle.std.proofs.Math.Bool.{true, false}
use mathlib.Core.List.{List, [], ◌++◌}
use Rattle.std.proofs.Common.{sym, ap, ap₂, subst, ◌∙◌, length-append, length-take-le}
use native.Mathlib.Omega.{arith}
use Rattle.std.proofs.Math.ListN.{length}
use Rattle.std.proofs.lemmas.List.{length-replicate}
use Rattle.cells.specs.written_text.Written.{WrittenAt, written-length, decimal-short}
use Rattle.cells.specs.columns.Lent.{read_columns}
use Rattle.cells.specs.declared.columns.Columns.{Columns as Table}
use Rattle.cells.specs.lent.Columns.{first_cells}
use Rattle.chains.specs.declared.tags.ElementNames.{ElementNames}
use Rattle.chains.specs.handed.Answers.{sizes_at}
use Rattle.chains.specs.tags.Chains.{chain_at, chain_length}
use Rattle.library_spec.specs.Listing.{decimal, line_feed, header, refused_line}
use Rattle.listing_files.specs.contents.Files.{LinesFit, ListsRows}
use Rattle.listing_files.specs.declared.contents.Listed.{Listed}
use Rattle.listing_text.specs.lines.Lines.{refusal, refusal-line, line_of, line_in, row_line, RowPass}
use Rattle.table_spec.specs.Columns.{Columns}
use Rattle.text_spec.specs.Lists.{bytes}
use Rattle.text_spec.specs.Refusals.{Refusal, number_of}

-- `&xs[..n]` is in bounds and has n bytes
abbrev pub IsPrefixLen : ℕ → List ℕ → Type 0
IsPrefixLen n xs = (n ≤ length xs) × (n ≡ length (take n xs))

pub record RowsPrinted (schema : List ℕ) (table : Table) (firsts : List ℕ) (r : Listed) : Type 0 where
  pub fit : LinesFit schema table.names.now table.parents.now r
  pub numbered : length table.numbers.now ≡ r.rows
  pub noted : length firsts ≡ r.rows

-- as many bytes as are taken
pub taken : (n : ℕ) (xs : List ℕ) → n ≤ length xs → n ≡ length (take n xs)
taken n xs l = sym (length-take-le n xs l)

header-short : (was : List ℕ) (a b c n : ℕ) (out : List ℕ) → WrittenAt was 0 (header a b c) n out → n ≤ 100
header-short was a b c n out w =
    omega (
      arith,
      w.after,
      length-append (bytes "selected ") (decimal a ++ (bytes " kept " ++ (decimal b ++ (bytes " of " ++ (decimal c ++ line_feed))))),
      length-append (decimal a) (bytes " kept " ++ (decimal b ++ (bytes " of " ++ (decimal c ++ line_feed)))),
      length-append (bytes " kept ") (decimal b ++ (bytes " of " ++ (decimal c ++ line_feed))),
      length-append (decimal b) (bytes " of " ++ (decimal c ++ line_feed)),
      length-append (bytes " of ") (decimal c ++ line_feed),
      length-append (decimal c) line_feed,
      decimal-short a,
      decimal-short b,
      decimal-short c,
    )

refusal-short : (was : List ℕ) (a b n : ℕ) (out : List ℕ) → WrittenAt was 0 (refusal a b) n out → n ≤ 100
refusal-short was a b n out w =
    omega (
      arith,
      w.after,
      length-append (bytes "refused ") (decimal a ++ (bytes " at " ++ (decimal b ++ line_feed))),
      length-append (decimal a) (bytes " at " ++ (decimal b ++ line_feed)),
      length-append (bytes " at ") (decimal b ++ line_feed),
      length-append (decimal b) line_feed,
      decimal-short a,
      decimal-short b,
    )

module _ (schema : List ℕ) (t : Table) (firsts : List ℕ) (r : Listed) (h : RowsPrinted schema t firsts r) (row : ℕ) (l : row < r.rows) where
  abbrev numbers : List ℕ
  numbers = t.numbers.now

  abbrev codes : List ℕ
  codes = t.names.now

  abbrev ps : List ℕ
  ps = t.parents.now

  abbrev sizes : List ℕ
  sizes = sizes_at schema r.names

  row_passes : (out : List ℕ) → length out ≡ 2200 → RowPass schema r.names sizes codes ps numbers firsts row out
  row_passes out e =
      record {
        line = record { named = h.fit.named; table = h.fit.table row l; room = omega (arith, h.fit.short row l) };
        numbered = omega (arith, h.numbered);
        noted = omega (arith, h.noted);
      }

  line-short : (n place : ℕ) → length (line_of n place (chain_at schema r.names sizes codes ps row)) ≤ 2098
  line-short n place =
      omega (
        arith,
        length-append (decimal n) (bytes " " ++ (decimal place ++ (bytes " " ++ (chain_at schema r.names sizes codes ps row ++ line_feed)))),
        length-append (bytes " ") (decimal place ++ (bytes " " ++ (chain_at schema r.names sizes codes ps row ++ line_feed))),
        length-append (decimal place) (bytes " " ++ (chain_at schema r.names sizes codes ps row ++ line_feed)),
        length-append (bytes " ") (chain_at schema r.names sizes codes ps row ++ line_feed),
        length-append (chain_at schema r.names sizes codes ps row) line_feed,
        decimal-short n,
        decimal-short place,
        chain_length schema r.names sizes codes ps h.fit.named row,
        h.fit.short row l,
      )

  row-length : length (row_line numbers firsts (chain_at schema r.names sizes codes ps) row) ≤ 2098
  unfolding row_line
  row-length = by (eqb (get_or firsts row 0) 0) (line-short (get_or numbers row 0) (get_or firsts row 0))
    where
      by : (b : Bool) → length (line_of (get_or numbers row 0) (get_or firsts row 0) (chain_at schema r.names sizes codes ps row)) ≤ 2098
          → length (cond b [] (line_of (get_or numbers row 0) (get_or firsts row 0) (chain_at schema r.names sizes codes ps row))) ≤ 2098
      by true k = omega arith
      by false k = k

  row-short : (was : List ℕ) (n : ℕ) (out : List ℕ) → WrittenAt was 0 (row_line numbers firsts (chain_at schema r.names sizes codes ps) row) n out → n ≤ 2200
  row-short was n out w = omega (arith, w.after, row-length)

  -- with the names as a value
  module _ (names : ElementNames) (text : names.text.now ≡ schema) (starts : names.starts.now ≡ r.names) (sized : names.sizes.now ≡ sizes) where
    pub row-pass : (out : List ℕ) → length out ≡ 2200 → RowPass names.text.now names.starts.now names.sizes.now codes ps numbers firsts row out
    row-pass out e = rw (text, starts, sized) (row_passes out e)

    pub row_fits_lem : (was : List ℕ) (n : ℕ) (out : List ℕ) → length was ≡ 2200 → WrittenAt was 0 (line_in names t firsts row) n out → n ≤ length out
    row_fits_lem was n out e w =
        let same = ap₂ (λ (x y : List ℕ). row_line numbers firsts (chain_at x y names.sizes.now codes ps) row) text starts
        ∙ ap (λ (z : List ℕ). row_line numbers firsts (chain_at schema r.names z codes ps) row) sized in
        omega (arith, row-short was n out (subst (λ (x : List ℕ). WrittenAt was 0 x n out) same w), written-length w)

-- ---- a line in a new buffer
pub new-long : (n : ℕ) (xs out : List ℕ) → WrittenAt (replicate 2200 0) 0 xs n out → length out ≡ 2200
new-long n xs out w = written-length w ∙ length-replicate {A = ℕ} 2200 0

pub same-long : (was : List ℕ) (n : ℕ) (xs out : List ℕ) → length was ≡ 2200 → WrittenAt was 0 xs n out → length out ≡ 2200
same-long was n xs out e w = written-length w ∙ e

pub header-fits : (a b c n : ℕ) (out : List ℕ) → WrittenAt (replicate 2200 0) 0 (header a b c) n out → n ≤ length out
header-fits a b c n out w = omega (arith, header-short (replicate 2200 0) a b c n out w, new-long n (header a b c) out w)

pub refusal-fits : (f : Refusal) (n : ℕ) (out : List ℕ) → WrittenAt (replicate 2200 0) 0 (refused_line f) n out → n ≤ length out
refusal-fits f n out w =
    let line = subst (λ (x : List ℕ). WrittenAt (replicate 2200 0) 0 x n out) (refusal-line f) w in
    omega (arith, refusal-short (replicate 2200 0) (number_of f.reason) f.place n out line, new-long n (refusal (number_of f.reason) f.place) out line)

-- ---- the rows as they are listed, in columns that hold the first of them
pub rows-printed : (schema bundle journal : List ℕ) (d : Columns) (firsts : List ℕ) (r : Listed) → ListsRows schema bundle journal d firsts r → (x : Table)
    → read_columns x ≡ first_cells r.rows d → r.rows ≤ length firsts → RowsPrinted schema x (take r.rows firsts) r
rows-printed schema bundle journal d firsts r w x e l =
    record {
      fit = subst (λ (y : Columns). LinesFit schema y.names y.parents r) (sym e) w.fits;
      numbered = ap (λ (y : Columns). length y.numbers) e ∙ length-take-le r.rows d.numbers w.room;
      noted = length-take-le r.rows firsts l;
    }
