-- The fields of the marked rows of a table in columns, with the text beside it.
use Rattle.std.specs.Prelude.{Bool, true, false, List, [], ◌++◌, ◌≡◌, refl, ℕ, zero, suc, ◌+◌, ◌*◌, ◌-◌, ◌<◌, ◌≤◌, eqb, ltb, length, get_or, take, drop}
use Rattle.std.proofs.Math.Bool.{cond}
use Rattle.std.proofs.Math.Path.{sym, ap}
use Rattle.std.proofs.Common.{subst, ◌∙◌, add-one, arith, eq-eqb, ne_eqb, lt-ltb, le-ltb, ltb-true, ltb-false, length-append, length-drop, length-take-le, Fits}
use Rattle.std.specs.Int.{w64}
use Rattle.cells.specs.row_sets.Columns.{is_marked}
use Rattle.extract_spec.specs.Fields.{row_field}
use Rattle.extract_writer.specs.declared.writers.Writer.{Writer}
use Rattle.extract_writer.specs.fields.Fields.{whole_characters, TextPass}
use Rattle.extract_writer.specs.writers.Writers.{Puts, puts-nothing, puts-then, puts-as, puts-length}
use Rattle.kept_rows.specs.Joined.{joined, joined-none}
use Rattle.kept_rows.specs.cut_rows.Rows.{OfLength}
use Rattle.names.specs.codes.Codes.{name_of_code}
use Rattle.names.specs.codes.Laws.{element-of-code, text-of-code}
use Rattle.schema_spec.specs.Names.{Name, element, text}
use Rattle.table_spec.specs.Columns.{Columns}
use Rattle.table_spec.specs.Rows.{characters_by}
use Rattle.text_spec.specs.Limits.{max_declarations, max_nodes, max_text_bytes}
use Rattle.text_spec.specs.Lists.{part}

-- ---- definitions
-- the characters of row r: those of its part of the text lent
abbrev pub row_characters : List ℕ → Columns → ℕ → List ℕ
row_characters lent c r = characters_by (get_or c.lengths r 0) (get_or c.decoded r 0) (part (get_or c.starts r 0) (get_or c.lengths r 0) lent)

-- the field of row r: its parent by number, and its characters
unfoldable pub field_at : List ℕ → Columns → ℕ → List ℕ
field_at lent c r =
    row_field (name_of_code (get_or c.names r 0)) (get_or c.numbers r 0) (get_or c.numbers (get_or c.parents r 0) 0) (row_characters lent c r)

-- the same, if the row's mark is set
unfoldable pub marked_field : List ℕ → Columns → ℕ → ℕ → List ℕ
marked_field lent c mark r = cond (eqb mark 1) (field_at lent c r) []

-- how many bytes a field has, by its row's code and the number of its characters
unfoldable pub field_size : ℕ → ℕ → ℕ
field_size code size = cond (ltb code max_declarations) 8 (7 + size)

abbrev pub size_at : Columns → ℕ → ℕ
size_at c r = field_size (get_or c.names r 0) (get_or c.decoded r 0)

-- ---- what is asked
-- n rows whose parents are among them, each text row's range inside the text, and as many characters as its decoded length
pub record ExtractColumns (lent : List ℕ) (c : Columns) (n : ℕ) : Type 0 where
  pub sizes : OfLength c n
  pub few : n ≤ max_nodes
  pub above : (r : ℕ) → r < n → get_or c.parents r 0 < n
  pub inside : (r : ℕ) → r < n → max_declarations ≤ get_or c.names r 0 → get_or c.starts r 0 + get_or c.lengths r 0 ≤ length lent
  pub spelt : (r : ℕ) → r < n → max_declarations ≤ get_or c.names r 0 → length (row_characters lent c r) ≡ get_or c.decoded r 0
  pub short : (r : ℕ) → r < n → max_declarations ≤ get_or c.names r 0 → get_or c.decoded r 0 ≤ max_text_bytes

-- ---- sizes of fields
pub size-element : (code size : ℕ) → code < max_declarations → 8 ≡ field_size code size
unfolding field_size
size-element code size l = sym (ap (λ (b : Bool). cond b 8 (7 + size)) (lt-ltb code max_declarations l))

pub size-text : (code size : ℕ) → max_declarations ≤ code → 7 + size ≡ field_size code size
unfolding field_size
size-text code size l = sym (ap (λ (b : Bool). cond b 8 (7 + size)) (le-ltb code max_declarations l))

pub part_length : (lent : List ℕ) (start size : ℕ) → start + size ≤ length lent → length (part start size lent) ≡ size
part_length lent start size l = length-take-le size (drop start lent) (omega (arith, length-drop start lent))

-- the range of a text as a part of it
pub range-part : (lent : List ℕ) (start size : ℕ) → take (start + size - start) (drop start lent) ≡ part start size lent
range-part lent start size = let z : start + size - start ≡ size = omega arith in ap (λ (k : ℕ). take k (drop start lent)) z

module _ (lent : List ℕ) (c : Columns) (r : ℕ) where
  -- the field of an element, and that of a text
  pub element-field : get_or c.names r 0 < max_declarations
      → row_field (element (get_or c.names r 0)) (get_or c.numbers r 0) (get_or c.numbers (get_or c.parents r 0) 0) [] ≡ field_at lent c r
  unfolding field_at
  element-field l =
      sym (ap (λ (m : Name). row_field m (get_or c.numbers r 0) (get_or c.numbers (get_or c.parents r 0) 0) (row_characters lent c r))
      (element-of-code (get_or c.names r 0) l))

  pub text-field : max_declarations ≤ get_or c.names r 0
      → row_field (text 0) (get_or c.numbers r 0) (get_or c.numbers (get_or c.parents r 0) 0) (row_characters lent c r) ≡ field_at lent c r
  unfolding field_at
  text-field l =
      sym (ap (λ (m : Name). row_field m (get_or c.numbers r 0) (get_or c.numbers (get_or c.parents r 0) 0) (row_characters lent c r))
      (text-of-code (get_or c.names r 0) l))

  pub field-length : (n : ℕ) → ExtractColumns lent c n → r < n → length (field_at lent c r) ≡ size_at c r
  field-length n h l = pick (ltb (get_or c.names r 0) max_declarations) refl
    where
      pick : (b : Bool) → ltb (get_or c.names r 0) max_declarations ≡ b → length (field_at lent c r) ≡ size_at c r
      pick true q =
          let k = ltb-true (get_or c.names r 0) max_declarations q in
          ap length (sym (element-field k)) ∙ size-element (get_or c.names r 0) (get_or c.decoded r 0) k
      pick false q =
          let k = ltb-false (get_or c.names r 0) max_declarations q in
          let z = h.spelt r l k in
          let y : length (row_field (text 0) (get_or c.numbers r 0) (get_or c.numbers (get_or c.parents r 0) 0) (row_characters lent c r)) ≡ 7 + get_or c.decoded r 0 = omega arith in
          ap length (sym (text-field k)) ∙ y ∙ size-text (get_or c.names r 0) (get_or c.decoded r 0) k

  pub unmarked-field : (mark : ℕ) → (mark ≡ 1 → ⊥) → marked_field lent c mark r ≡ []
  unfolding marked_field
  unmarked-field mark d = ap (λ (b : Bool). cond b (field_at lent c r) []) (ne_eqb mark 1 d)

  pub marked-field : (mark : ℕ) → mark ≡ 1 → marked_field lent c mark r ≡ field_at lent c r
  unfolding marked_field
  marked-field mark e = ap (λ (b : Bool). cond b (field_at lent c r) []) (eq-eqb mark 1 e)

-- ---- one row
-- there is room for the field
pub record RowPass (lent : List ℕ) (c : Columns) (mark r : ℕ) (w : Writer) : Type 0 where
  pub columns : ExtractColumns lent c (length c.numbers)
  pub inside : r < length c.numbers
  pub room : w.at + length (marked_field lent c mark r) ≤ length w.out.now

-- so the row stands in each column, and its place in bytes fits a word
pub record RowPlace (c : Columns) (r : ℕ) : Type 0 where
  pub names : r < length c.names
  pub parents : r < length c.parents
  pub starts : r < length c.starts
  pub lengths : r < length c.lengths
  pub decoded : r < length c.decoded
  pub halves : Fits w64 (r * 2)
  pub words : Fits w64 (r * 4)

pub row-place : {lent : List ℕ} {c : Columns} {mark r : ℕ} {w : Writer} → RowPass lent c mark r w → RowPlace c r
row-place h =
    let z = h.columns.sizes in
    let l = h.inside in
    let f = h.columns.few in
    record {
      names = omega (arith, z.names);
      parents = omega (arith, z.parents);
      starts = omega (arith, z.starts);
      lengths = omega (arith, z.lengths);
      decoded = omega (arith, z.decoded);
      halves = omega arith;
      words = omega arith;
    }

module _ (lent : List ℕ) (c : Columns) (mark r : ℕ) (w : Writer) (h : RowPass lent c mark r w) where
  -- the text of the row, as the code takes it
  abbrev ranged : List ℕ
  ranged = take (get_or c.starts r 0 + get_or c.lengths r 0 - get_or c.starts r 0) (drop (get_or c.starts r 0) lent)

  pub row-skipped : (mark ≡ 1 → ⊥) → Puts w (marked_field lent c mark r) w
  row-skipped d = puts-as (sym (unmarked-field lent c r mark d)) (puts-nothing w)

  pub row_room : mark ≡ 1 → w.at + size_at c r ≤ length w.out.now
  row_room e = omega (arith, h.room, ap length (marked-field lent c r mark e), field-length lent c r (length c.numbers) h.columns h.inside)

  pub element-room : mark ≡ 1 → get_or c.names r 0 < max_declarations → w.at + 8 ≤ length w.out.now
  element-room e l = omega (arith, row_room e, size-element (get_or c.names r 0) (get_or c.decoded r 0) l)

  pub element-put : mark ≡ 1 → get_or c.names r 0 < max_declarations → (v : Writer)
      → Puts w (row_field (element (get_or c.names r 0)) (get_or c.numbers r 0) (get_or c.numbers (get_or c.parents r 0) 0) []) v → Puts w (marked_field lent c mark r) v
  element-put e l v p = puts-as (element-field lent c r l ∙ sym (marked-field lent c r mark e)) p

  text-length : max_declarations ≤ get_or c.names r 0 → length (part (get_or c.starts r 0) (get_or c.lengths r 0) lent) ≡ get_or c.lengths r 0
  text-length l = part_length lent (get_or c.starts r 0) (get_or c.lengths r 0) (h.columns.inside r h.inside l)

  ranged-characters : max_declarations ≤ get_or c.names r 0 → whole_characters (get_or c.decoded r 0) ranged ≡ row_characters lent c r
  ranged-characters l =
      ap (whole_characters (get_or c.decoded r 0)) (range-part lent (get_or c.starts r 0) (get_or c.lengths r 0))
      ∙ ap (λ (n : ℕ). characters_by n (get_or c.decoded r 0) (part (get_or c.starts r 0) (get_or c.lengths r 0) lent)) (text-length l)

  pub text-asked : mark ≡ 1 → max_declarations ≤ get_or c.names r 0 → TextPass ranged (get_or c.decoded r 0) w.out.now w.at
  text-asked e l =
      record {
        short = h.columns.short r h.inside l;
        spelt = ap length (ranged-characters l) ∙ h.columns.spelt r h.inside l;
        room = omega (arith, row_room e, size-text (get_or c.names r 0) (get_or c.decoded r 0) l);
      }

  pub text-put : mark ≡ 1 → max_declarations ≤ get_or c.names r 0 → (v : Writer)
      → Puts w (row_field (text 0) (get_or c.numbers r 0) (get_or c.numbers (get_or c.parents r 0) 0) (whole_characters (get_or c.decoded r 0) ranged)) v
      → Puts w (marked_field lent c mark r) v
  text-put e l v p =
      puts-as
      (ap (row_field (text 0) (get_or c.numbers r 0) (get_or c.numbers (get_or c.parents r 0) 0)) (ranged-characters l) ∙ text-field lent c r l ∙ sym (marked-field lent c r mark e))
      p

-- ---- the rows before r behind
pub record FieldsPass (lent : List ℕ) (c : Columns) (m : List ℕ) (w : Writer) : Type 0 where
  pub columns : ExtractColumns lent c (length c.numbers)
  pub size : length m ≡ length c.numbers
  pub room : w.at + length (joined (field_at lent c) m (length m)) ≤ length w.out.now

joined-rises : {A : Type 0} (f : ℕ → List A) (m : List ℕ) (r d : ℕ) → length (joined f m r) ≤ length (joined f m (r + d))
unfolding joined
joined-rises f m r zero = let z : r + 0 ≡ r = omega arith in rw z (omega arith)
joined-rises f m r (suc d) =
    let z : r + suc d ≡ suc (r + d) = omega arith in
    let h = joined-rises f m r d in
    rw z (omega (arith, length-append (joined f m (r + d)) (cond (is_marked m (r + d)) (f (r + d)) [])))

module _ (lent : List ℕ) (c : Columns) (m : List ℕ) (was : Writer) (h : FieldsPass lent c m was) where
  abbrev Fields : ℕ → List ℕ
  Fields r = joined (field_at lent c) m r

  pub fields-none : Puts was (joined (field_at lent c) m 0) was
  fields-none = puts-as (sym (joined-none (field_at lent c) m)) (puts-nothing was)

  module _ (r : ℕ) (w : Writer) (p : Puts was (joined (field_at lent c) m r) w) (l : r < length m) where
    one_more : joined (field_at lent c) m (r + 1) ≡ joined (field_at lent c) m r ++ marked_field lent c (get_or m r 0) r
    unfolding joined marked_field
    one_more = ap (joined (field_at lent c) m) (add-one r)

    pub fields-row : RowPass lent c (get_or m r 0) r w
    fields-row =
        record {
          columns = h.columns;
          inside = omega (arith, h.size);
          room =
              (let z : r + 1 + (length m - (r + 1)) ≡ length m = omega arith in
              let t : length (Fields (r + 1)) ≤ length (Fields (length m)) =
              subst (λ (k : ℕ). length (Fields (r + 1)) ≤ length (Fields k)) z (joined-rises (field_at lent c) m (r + 1) (length m - (r + 1))) in
              omega (arith, p.after, h.room, ap length one_more, length-append (Fields r) (marked_field lent c (get_or m r 0) r), puts-length p));
        }

    pub fields-next : (v : Writer) → Puts w (marked_field lent c (get_or m r 0) r) v → Puts was (joined (field_at lent c) m (r + 1)) v
    fields-next v q = puts-as (sym one_more) (puts-then p q)

  pub fields-all : (r : ℕ) (w : Writer) → Puts was (joined (field_at lent c) m r) w → r ≡ length m → Puts was (joined (field_at lent c) m (length m)) w
  fields-all r w p e = puts-as (ap (joined (field_at lent c) m) e) p
