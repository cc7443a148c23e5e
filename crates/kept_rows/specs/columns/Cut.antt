-- A table cut to a set of names, in other columns: the rows kept, and then zeros, or zeros alone where there is too little room.
use Rattle.std.specs.Prelude.{Bool, true, cond, ◌&&◌, ◌≡◌, ℕ, ◌<◌, ◌≤◌, T, eqb, ltb, get_or, take, replicate}
use Rattle.std.proofs.Math.Bool.{not}
use mathlib.Core.List.{List, []}
use Rattle.std.proofs.Common.{⊎_elim, ◌∙◌, eq-or-lt_of_le, arith, lt-ltb, le-ltb, length-take-le}
use Rattle.std.proofs.Math.Path.{sym, ap, ap₂, subst}
use Rattle.std.proofs.Math.ListN.{length}
use Rattle.std.proofs.lemmas.List.{length-replicate}
use Rattle.cells.specs.columns.Lent.{lent_columns, Same}
use Rattle.cells.specs.declared.columns.ColumnsMut.{ColumnsMut}
use Rattle.cells.specs.lent.Cells.{all-cleared}
use Rattle.cells.specs.lent.Columns.{ClearedFrom, same-columns}
use Rattle.cells.specs.row_sets.Columns.{is_marked, marks, marks-length, marks-marked, marks-cong}
use Rattle.kept_rows.specs.Joined.{rank}
use Rattle.kept_rows.specs.Kept.{is_kept, kept_marks, KeptColumns, kept-later}
use Rattle.kept_rows.specs.Positions.{Numbered as Counted, nonzero-position, positions, positions-length, positions-at}
use Rattle.kept_rows.specs.cut_rows.Cells.{noted-cleared}
use Rattle.kept_rows.specs.cut_rows.Rows.{kept_columns, marked_by, OfLength, Room, CutPass, RowsNoted}
use Rattle.table_spec.specs.Columns.{Columns, Sizes, sizes_of, columns}
use Rattle.text_laws.specs.Tests.{passed, true_of, and_cases}
use Rattle.text_spec.specs.Cells.{padded}

-- ---- definitions
-- columns in lent cells, and then zeros
unfoldable pub padded_columns : Sizes → Columns → Columns
padded_columns z c =
    record {
      numbers = padded z.numbers c.numbers;
      names = padded z.names c.names;
      parents = padded z.parents c.parents;
      starts = padded z.starts c.starts;
      lengths = padded z.lengths c.lengths;
      decoded = padded z.decoded c.decoded;
    }

-- n rows where there is room, else zeros
unfoldable pub answered : Sizes → ℕ → Columns → Columns
answered z n c = padded_columns z (cond (ltb z.numbers n) (columns [] [] [] [] [] []) c)

-- ---- the cells past n rows are cleared
pub short-answered : (o : Columns) (n : ℕ) (c y : Columns) → length o.numbers < n → ClearedFrom o 0 y → y ≡ answered (sizes_of o) n c
unfolding answered padded_columns
short-answered o n c y l w =
    rw (lt-ltb (length o.numbers) n l)
    (same-columns (all-cleared o.numbers y.numbers w.numbers) (all-cleared o.names y.names w.names)
    (all-cleared o.parents y.parents w.parents) (all-cleared o.starts y.starts w.starts) (all-cleared o.lengths y.lengths w.lengths) (all-cleared o.decoded y.decoded w.decoded))

module _ (m : List ℕ) (c o : Columns) (r : ℕ) (x : Columns) (w : RowsNoted m c o r x) (room : Room (rank m r) o) where
  pub rows-answered : (n : ℕ) (y : Columns) → n ≡ rank m r → ClearedFrom x n y → y ≡ answered (sizes_of o) n (kept_columns m c r)
  unfolding answered padded_columns kept_columns
  rows-answered n y q v =
      let l : n ≤ length o.numbers = omega (arith, room.enough) in
      let a = noted-cleared _ _ _ r x.numbers y.numbers n w.numbers q l v.numbers in
      let b = noted-cleared _ _ _ r x.names y.names n w.names q (omega (arith, room.sizes.names)) v.names in
      let d =
      noted-cleared _ _ _ r x.parents y.parents n w.parents q (omega (arith, room.sizes.parents)) v.parents in
      let e = noted-cleared _ _ _ r x.starts y.starts n w.starts q (omega (arith, room.sizes.starts)) v.starts in
      let f = noted-cleared _ _ _ r x.lengths y.lengths n w.lengths q (omega (arith, room.sizes.lengths)) v.lengths in
      let g = noted-cleared _ _ _ r x.decoded y.decoded n w.decoded q (omega (arith, room.sizes.decoded)) v.decoded in
      rw (le-ltb (length o.numbers) n l) (same-columns a b d e f g)

-- ---- cutting
-- the columns of a table that passes refusal 1, as far as cutting depends on it
pub record TableColumns (c : Columns) : Type 0 where
  pub kept : KeptColumns c.names c.parents
  pub sizes : OfLength c (length c.parents)
  pub root : get_or c.parents 0 0 ≡ 0

-- such columns, and lent columns of equal length
abbrev pub CutColumns : Columns → Columns → Type 0
CutColumns c o = TableColumns c × OfLength o (length o.numbers)

pub record Cutting (c : Columns) (pos : List ℕ) (o : Columns) : Type 0 where
  pub rows : TableColumns c
  pub scratch : length pos ≡ length c.parents
  pub lent : OfLength o (length o.numbers)

-- the rows that the codes keep, in lent columns, and how many they are
pub record CutAs (f : ℕ → Bool) (c o : Columns) (n : ℕ) (x : Columns) : Type 0 where
  pub count : n ≡ rank (kept_marks f c.names c.parents) (length c.parents)
  pub columns : x ≡ answered (sizes_of o) n (kept_columns (kept_marks f c.names c.parents) c (length c.parents))

-- the same of lent columns
pub record CutInto (f : ℕ → Bool) (c : Columns) (n : ℕ) (old new : ColumnsMut) : Type 0 where
  pub same : Same old new
  pub cut : CutAs f c (lent_columns old) n (lent_columns new)

module _ (f : ℕ → Bool) (c o : Columns) (h : TableColumns c) where
  m : List ℕ
  m = kept_marks f c.names c.parents

  long : length m ≡ length c.parents
  unfolding kept_marks m
  long = marks-length (length c.parents) (is_kept f c.names c.parents)

  kept-is : (r : ℕ) → r < length c.parents → is_marked m r ≡ is_kept f c.names c.parents r
  unfolding kept_marks m
  kept-is r l = marks-marked (length c.parents) (is_kept f c.names c.parents) r l

  -- the parent of a kept row is kept
  above : (r : ℕ) → r < length c.parents → is_marked m r ≡ true → (get_or c.parents r 0 < length c.parents) × (is_marked m (get_or c.parents r 0) ≡ true)
  above r l e = ⊎_elim root later (eq-or-lt_of_le {n = 0} (omega arith))
    where
      root : 0 ≡ r → (get_or c.parents r 0 < length c.parents) × (is_marked m (get_or c.parents r 0) ≡ true)
      root z =
          let y : get_or c.parents r 0 ≡ r = ap (λ (k : ℕ). get_or c.parents k 0) (sym z) ∙ h.root ∙ z in
          (omega arith, ap (is_marked m) y ∙ e)

      later : 0 < r → (get_or c.parents r 0 < length c.parents) × (is_marked m (get_or c.parents r 0) ≡ true)
      later p =
          let u : get_or c.parents r 0 < r = h.kept.before r p l in
          let k : T (f (get_or c.names r 0) && is_kept f c.names c.parents (get_or c.parents r 0)) =
          passed (sym (kept-later f c.names c.parents h.kept.before r p l) ∙ sym (kept-is r l) ∙ e) in (
            omega arith,
            kept-is (get_or c.parents r 0) (omega arith)
                ∙ true_of (is_kept f c.names c.parents (get_or c.parents r 0)) (and_cases (f (get_or c.names r 0)) (is_kept f c.names c.parents (get_or c.parents r 0)) k).1,
          )

  module _ (pos : List ℕ) (n : ℕ) (w : Counted (kept_marks f c.names c.parents) n pos) where
    pub pos-length : length pos ≡ length c.parents
    unfolding m
    pos-length = ap length w.cells ∙ positions-length m ∙ long

    pos-marked : marked_by pos ≡ m
    unfolding marked_by kept_marks m
    pos-marked =
        ap (λ (k : ℕ). marks k (λ r. not (eqb (get_or pos r 0) 0))) pos-length
        ∙ marks-cong (length c.parents) (λ r. not (eqb (get_or pos r 0) 0)) (is_kept f c.names c.parents)
        (λ r l. ap (λ (p : List ℕ). not (eqb (get_or p r 0) 0)) w.cells ∙ ap (λ (k : ℕ). not (eqb k 0)) (positions-at m r (omega (arith, long))) ∙ nonzero-position m r ∙ kept-is r l)

    pub counted : n ≡ rank (kept_marks f c.names c.parents) (length c.parents)
    unfolding m
    counted = w.counted ∙ ap (rank m) long

    enough : n ≤ length o.numbers → OfLength o (length o.numbers) → Room (rank (marked_by pos) (length pos)) o
    unfolding m
    enough l s = record { sizes = s; enough = omega (arith, counted, ap₂ rank pos-marked pos-length) }

    pub cut-pass : OfLength o (length o.numbers) → n ≤ length o.numbers → CutPass pos c o
    unfolding m
    cut-pass s l =
        record {
          rows = record {
            sizes = subst (OfLength c) (sym pos-length) h.sizes;
            numbered = w.cells ∙ ap positions (sym pos-marked);
            above = λ r b e.
                (let a = above r (omega (arith, pos-length)) (ap (λ (k : List ℕ). is_marked k r) (sym pos-marked) ∙ e) in
                (omega (arith, pos-length, a.0), ap (λ (k : List ℕ). is_marked k (get_or c.parents r 0)) pos-marked ∙ a.1));
          };
          room = enough l s;
        }

    pub cut_short : (y : Columns) → length o.numbers < n → ClearedFrom o 0 y → CutAs f c o n y
    unfolding m
    cut_short y l v = record { count = counted; columns = short-answered o n _ y l v }

    pub cut-done : (x y : Columns) → OfLength o (length o.numbers) → n ≤ length o.numbers → RowsNoted (marked_by pos) c o (length pos) x → ClearedFrom x n y → CutAs f c o n y
    unfolding m
    cut-done x y s l u v =
        record {
          count = counted;
          columns =
              rows-answered (marked_by pos) c o (length pos) x u (enough l s) n y (counted ∙ sym (ap₂ rank pos-marked pos-length)) v
              ∙ ap₂ (λ (k : List ℕ) (r : ℕ). answered (sizes_of o) n (kept_columns k c r)) pos-marked pos-length;
        }

-- scratch for n rows, of cells for k
pub scratch-room : (k n : ℕ) → n ≤ k → length {A = ℕ} (take n (replicate k 0)) ≡ n
scratch-room k n l = length-take-le n (replicate k 0) (omega (arith, length-replicate {A = ℕ} k 0))
