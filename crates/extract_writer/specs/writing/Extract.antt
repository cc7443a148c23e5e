-- The extract of the marked rows of a table in columns: their fields, taken in the whole table, and then the count.
use Rattle.std.specs.Prelude.{Bool, true, false, ◌≡◌, refl, ℕ, ◌+◌, ◌*◌, ◌<◌, ◌≤◌, ltb, length, get_or, take, replicate}
use mathlib.Core.List.{List, [], ◌++◌}
use Rattle.std.proofs.Common.{sym, subst, ◌∙◌, arith, lt-ltb, le-ltb, ltb-true, ltb-false, length-take-le, get_or-take}
use Rattle.std.proofs.Math.Path.{ap}
use Rattle.std.proofs.Math.ListN.{length-append}
use Rattle.std.proofs.lemmas.List.{length-replicate, get_or-replicate}
use Rattle.cells.specs.lent.Cells.{Cleared}
use Rattle.cells.specs.lent.Ends.{Slice}
use Rattle.cells.specs.row_sets.Columns.{OnlyMarks, marks, only-marks, marks-length, marks-by-rows}
use Rattle.extract_spec.specs.Fields.{count_tag, two_bytes, field}
use Rattle.extract_writer.specs.declared.writers.Writer.{Writer}
use Rattle.extract_writer.specs.rows.Measure.{MeasurePass, MeasuredAs}
use Rattle.extract_writer.specs.rows.Rows.{field_at, size-element, size-text, field-length, size_at, ExtractColumns, FieldsPass}
use Rattle.extract_writer.specs.writers.Writers.{stored, Puts, RestCleared, puts-then, puts-as, puts-length}
use Rattle.kept_rows.specs.Joined.{joined, rank, joined_length, total-bound}
use Rattle.kept_rows.specs.Kept.{is_kept, kept_marks, KeptColumns, KeptPass}
use Rattle.kept_rows.specs.cut_rows.Cells.{sets-cleared}
use Rattle.table_spec.specs.Columns.{Columns}
use Rattle.text_spec.specs.Calls.{in_room, cells_after}
use Rattle.text_spec.specs.Cells.{too_small}
use Rattle.text_spec.specs.Limits.{max_declarations}

-- ---- definitions
unfoldable pub extract_in : List ℕ → Columns → List ℕ → List ℕ
extract_in lent c m = joined (field_at lent c) m (length m) ++ field count_tag (two_bytes (rank m (length m)))

-- bytes in lent cells, and then zeros; zeros alone where there is too little room
unfoldable pub in_lent_bytes : ℕ → List ℕ → List ℕ
in_lent_bytes size xs = cells_after size (λ x. x) (in_room (too_small size xs) xs)

-- n is their number
pub record BytesWritten (was xs : List ℕ) (n : ℕ) (out : List ℕ) : Type 0 where
  pub size : n ≡ length xs
  pub cells : out ≡ in_lent_bytes (length was) xs

-- the same of a lent slice
abbrev pub WrittenIn : Slice → List ℕ → ℕ → Type 0
WrittenIn out xs n = BytesWritten out.entry.now xs n out.exit.now

-- ---- what is asked
pub record ExtractPass (lent : List ℕ) (c : Columns) (m : List ℕ) : Type 0 where
  pub columns : ExtractColumns lent c (length c.numbers)
  pub marked : OnlyMarks m
  pub size : length m ≡ length c.numbers

-- ---- laws
pub short-bytes : (was xs : List ℕ) (n : ℕ) (out : List ℕ) → n ≡ length xs → length was < n → Cleared was 0 out → BytesWritten was xs n out
unfolding in_lent_bytes
short-bytes was xs n out e l w =
    record { size = e; cells = sets-cleared was [] out 0 refl (omega arith) w ∙ sym (ap (λ (b : Bool). cells_after (length was) (λ x. x) (in_room b xs)) (lt-ltb (length was) (length xs) (omega arith))) }

pub whole-bytes : (was xs : List ℕ) (n : ℕ) (mid out : List ℕ) → n ≡ length xs → n ≤ length was → mid ≡ stored was 0 xs → Cleared mid n out → BytesWritten was xs n out
unfolding in_lent_bytes stored
whole-bytes was xs n mid out e l q w =
    record {
      size = e;
      cells =
          sets-cleared was xs out n e l (subst (λ (u : List ℕ). Cleared u n out) q w)
          ∙ sym (ap (λ (b : Bool). cells_after (length was) (λ x. x) (in_room b xs)) (le-ltb (length was) (length xs) (omega arith)));
    }

module _ (lent : List ℕ) (c : Columns) (m : List ℕ) (h : ExtractPass lent c m) where
  pub measure-pass : MeasurePass c.names c.decoded m
  measure-pass =
      record {
        marked = h.marked;
        few = omega (arith, h.size, h.columns.few);
        names = h.columns.sizes.names ∙ sym h.size;
        sizes = h.columns.sizes.decoded ∙ sym h.size;
      }

  module _ (bytes rows : ℕ) (w : MeasuredAs c.names c.decoded m bytes rows) where
    fields-size : bytes ≡ length (joined (field_at lent c) m (length m))
    fields-size =
        w.bytes-are
        ∙ sym (joined_length (field_at lent c) m (size_at c) (length m) (λ r l. field-length lent c r (length c.numbers) h.columns (omega (arith, h.size))))

    -- a field has at most 7 + 4,096 bytes
    small : (r : ℕ) → r < length m → size_at c r ≤ 4103
    small r l = pick (ltb (get_or c.names r 0) max_declarations) refl
      where
        pick : (b : Bool) → ltb (get_or c.names r 0) max_declarations ≡ b → size_at c r ≤ 4103
        pick true q = omega (arith, size-element (get_or c.names r 0) (get_or c.decoded r 0) (ltb-true (get_or c.names r 0) max_declarations q))
        pick false q =
            let k = ltb-false (get_or c.names r 0) max_declarations q in
            omega (arith, size-text (get_or c.names r 0) (get_or c.decoded r 0) k, h.columns.short r (omega (arith, h.size)) k)

    pub extract-low : bytes ≤ 65535 * 4103
    extract-low = omega (arith, w.bytes-are, total-bound (size_at c) m 4103 (length m) small, h.size, h.columns.few)

    pub extract-size : bytes + 5 ≡ length (extract_in lent c m)
    unfolding extract_in
    extract-size = omega (arith, fields-size, length-append (joined (field_at lent c) m (length m)) (field count_tag (two_bytes (rank m (length m)))))

    pub fields-pass : (w : Writer) → w.at ≡ 0 → bytes + 5 ≤ length w.out.now → FieldsPass lent c m w
    fields-pass w e l = record { columns = h.columns; size = h.size; room = omega (arith, fields-size) }

    module _ (was x : Writer) (v : Puts was (joined (field_at lent c) m (length m)) x) where
      pub count_room : was.at ≡ 0 → bytes + 5 ≤ length was.out.now → x.at + 5 ≤ length x.out.now
      count_room e l = omega (arith, fields-size, v.after, puts-length v)

      pub extract-put : (y : Writer) → Puts x (field count_tag (two_bytes rows)) y → Puts was (extract_in lent c m) y
      unfolding extract_in
      extract-put y p =
          puts-as (ap (λ (k : ℕ). joined (field_at lent c) m (length m) ++ field count_tag (two_bytes k)) w.rows_are) (puts-then v p)

-- the cells behind are cleared
pub extract-left : (xs : List ℕ) (n : ℕ) (was x y : Writer) → was.at ≡ 0 → n ≡ length xs → n ≤ length was.out.now → Puts was xs x → RestCleared x y
    → BytesWritten was.out.now xs n y.out.now
extract-left xs n was x y e s l p q =
    whole-bytes was.out.now xs n x.out.now y.out.now s l (p.bytes ∙ ap (λ (k : ℕ). stored was.out.now k xs) e)
    (let z : x.at ≡ n = omega (arith, p.after) in subst (λ (k : ℕ). Cleared x.out.now k y.out.now) z q.cleared)

-- ---- every row, and the rows that a set keeps
pub all-marked : (k n : ℕ) → n ≤ k → take n (replicate k 1) ≡ marks n (λ r. true)
all-marked k n l =
    let long : length {A = ℕ} (take n (replicate k 1)) ≡ n = length-take-le n (replicate k 1) (omega (arith, length-replicate {A = ℕ} k 1)) in
    marks-by-rows n (λ r. true) (take n (replicate k 1)) long (λ r b. get_or-take n (replicate k 1) r 0 b ∙ get_or-replicate k r 1 0 (omega arith))

pub prefix-length : (k n x : ℕ) → n ≤ k → n ≡ length (take n (replicate k x))
prefix-length k n x l = sym (length-take-le n (replicate k x) (omega (arith, length-replicate k x)))

pub every-row : (lent : List ℕ) (c : Columns) (k : ℕ) → ExtractColumns lent c (length c.numbers) → length c.numbers ≤ k → ExtractPass lent c (take (length c.numbers) (replicate k 1))
every-row lent c k h l =
    rw (all-marked k (length c.numbers) l)
    (record { columns = h; marked = only-marks (length c.numbers) (λ r. true); size = marks-length (length c.numbers) (λ r. true) })

pub answered-same : (lent : List ℕ) (c : Columns) (m k was : List ℕ) (n : ℕ) (out : List ℕ) → m ≡ k → BytesWritten was (extract_in lent c m) n out → BytesWritten was (extract_in lent c k) n out
answered-same lent c m k was n out e w = subst (λ (x : List ℕ). BytesWritten was (extract_in lent c x) n out) e w

-- scratch that has a cell for each row
pub record KeptExtract (lent : List ℕ) (c : Columns) (scratch : List ℕ) : Type 0 where
  pub columns : ExtractColumns lent c (length c.numbers)
  pub kept : KeptColumns c.names c.parents
  pub room : length scratch ≡ length c.numbers

module _ (lent : List ℕ) (c : Columns) (scratch : List ℕ) (h : KeptExtract lent c scratch) where
  pub kept-pass : KeptPass c.names c.parents scratch
  kept-pass = record { columns = h.kept; room = h.room ∙ sym h.columns.sizes.parents }

  pub kept-marked : (f : ℕ → Bool) (m : List ℕ) → m ≡ kept_marks f c.names c.parents → ExtractPass lent c m
  unfolding kept_marks
  kept-marked f m e =
      rw e
      (record {
        columns = h.columns;
        marked = only-marks (length c.parents) (is_kept f c.names c.parents);
        size = marks-length (length c.parents) (is_kept f c.names c.parents) ∙ h.columns.sizes.parents;
      })
