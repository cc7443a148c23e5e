-- One step of a compiled path on the columns of a table: forward along its axis, and back along the inverse axis.
use Rattle.std.proofs.Math.Bool.{false}
use mathlib.Core.List.{List}
use Rattle.std.specs.Prelude.{◌≡◌, ℕ, ◌<◌, length}
use Rattle.std.proofs.Math.Path.{sym, ap}
use Rattle.std.proofs.Common.{◌∙◌, arith}
use Rattle.std.proofs.Math.ListN.{replicate}
use Rattle.axis_passes.specs.inverse_axes.Axes.{axis-other}
use Rattle.axis_passes.specs.name_tests.Tests.{names_in, TestPass}
use Rattle.cells.specs.row_sets.Columns.{RowSet, is_marked, marks, OnlyMarks, union, intersection, marks-length, only-marks, no-row-marked}
use Rattle.compiled_paths.specs.Columns.{written_of}
use Rattle.compiled_paths.specs.Steps.{written_axis, node_test}
use Rattle.compiled_paths.specs.declared.Step.{Step}
use Rattle.path_laws.specs.Inverses.{inverse_written}
use Rattle.path_spec.specs.Paths.{Axis, self, descendant_or_self, ancestor_or_self, WrittenAxis, along, following, following_sibling, preceding, preceding_sibling}
use Rattle.selection_laws.specs.marks.Parents.{image_marks}
use Rattle.selection_laws.specs.marks.Passes.{AxisPass, SameLength, fill-marks, self-image}
use Rattle.selection_laws.specs.marks.Roots.{written_none}
use Rattle.selection_laws.specs.marks.Selection.{written_marks, inverse_marks, no_marks, test_marks}
use Rattle.selection_laws.specs.marks.Siblings.{following_sibling_marks, preceding_sibling_marks}
use Rattle.table_laws.specs.Columns.{Coded}
use Rattle.table_laws.specs.Parents.{ParentsBefore}
use Rattle.text_spec.specs.Lists.{any_below}

-- ---- definitions
module _ (ps codes : List ℕ) (p : Step) where
  -- the rows that a step leads to from the marked ones, before its condition
  unfoldable pub forward_marks : List ℕ → List ℕ
  forward_marks m = intersection (written_marks (written_axis p.axis) ps m) (test_marks (node_test p.test) (names_in codes))

  -- the rows from which a step leads to a marked one
  unfoldable pub backward_marks : List ℕ → List ℕ
  backward_marks m = inverse_marks (written_axis p.axis) ps (intersection m (test_marks (node_test p.test) (names_in codes)))

-- ---- what the passes ask
-- the columns of parents and of names of a table that is not empty
pub record TableColumns (ps codes : List ℕ) : Type 0 where
  pub before : ParentsBefore ps
  pub filled : 0 < length ps
  pub size : length codes ≡ length ps
  pub coded : Coded codes

pub record MarkColumn (ps m : List ℕ) : Type 0 where
  pub marked : OnlyMarks m
  pub size : length m ≡ length ps

-- a table, a column of marks and room for another
pub record StepPass (ps codes m out : List ℕ) : Type 0 where
  pub table : TableColumns ps codes
  pub column : MarkColumn ps m
  pub room : length out ≡ length ps

-- ---- columns stay columns
pub marks-column : (ps : List ℕ) (f : RowSet) → MarkColumn ps (marks (length ps) f)
marks-column ps f = record { marked = only-marks (length ps) f; size = marks-length (length ps) f }

pub image-column : (a : Axis) (ps m : List ℕ) → MarkColumn ps (image_marks a ps m)
unfolding image_marks
image-column a ps m = marks-column ps _

pub following-column : (ps m : List ℕ) → MarkColumn ps (following_sibling_marks ps m)
unfolding following_sibling_marks
following-column ps m = marks-column ps _

pub preceding-column : (ps m : List ℕ) → MarkColumn ps (preceding_sibling_marks ps m)
unfolding preceding_sibling_marks
preceding-column ps m = marks-column ps _

pub written-column : (a : WrittenAxis) (ps m : List ℕ) → MarkColumn ps (written_marks a ps m)
written-column (along a) ps m = image-column a ps m
written-column following ps m = image-column descendant_or_self ps (following_sibling_marks ps (image_marks ancestor_or_self ps m))
written-column following_sibling ps m = following-column ps m
written-column preceding ps m = image-column descendant_or_self ps (preceding_sibling_marks ps (image_marks ancestor_or_self ps m))
written-column preceding_sibling ps m = preceding-column ps m

module _ (ps m k : List ℕ) (c : MarkColumn ps m) where
  pub union-column : MarkColumn ps (union m k)
  unfolding union
  union-column = record { marked = only-marks (length m) _; size = marks-length (length m) _ ∙ c.size }

  pub intersection-column : MarkColumn ps (intersection m k)
  unfolding intersection
  intersection-column = record { marked = only-marks (length m) _; size = marks-length (length m) _ ∙ c.size }

pub forward-column : (ps codes : List ℕ) (p : Step) (m : List ℕ) → MarkColumn ps (forward_marks ps codes p m)
unfolding forward_marks
forward-column ps codes p m = intersection-column ps (written_marks (written_axis p.axis) ps m) (test_marks (node_test p.test) (names_in codes)) (written-column (written_axis p.axis) ps m)

pub backward-column : (ps codes : List ℕ) (p : Step) (m : List ℕ) → MarkColumn ps (backward_marks ps codes p m)
unfolding backward_marks
backward-column ps codes p m = written-column (inverse_written (written_axis p.axis)) ps (intersection m (test_marks (node_test p.test) (names_in codes)))

pub columns-same-length : {ps m out : List ℕ} → MarkColumn ps m → MarkColumn ps out → SameLength m out
columns-same-length c d = record { marked = c.marked; marks-out = d.marked; size = c.size ∙ sym d.size }

-- ---- an axis by its number
pub image-kept : (c : ℕ) (ps m was out : List ℕ) → AxisPass ps m was → written_of c ≡ along self → out ≡ m → out ≡ written_marks (written_of c) ps m
image-kept c ps m was out h e d = rw e (d ∙ self-image ps m was h)

-- the node itself, number 0
pub image-self : (ps m was out : List ℕ) → AxisPass ps m was → out ≡ m → out ≡ written_marks (along self) ps m
image-self ps m was out h d =
    let other : written_of 0 ≡ along self = axis-other 0 (λ e. omega arith) (λ e. omega arith) (λ e. omega arith) (λ e. omega arith) (λ e. omega arith) (λ e. omega arith) (λ e. omega arith) (λ e. omega arith) (λ e. omega arith) (λ e. omega arith) in
    image-kept 0 ps m was out h other d ∙ ap (λ (a : WrittenAxis). written_marks a ps m) other

-- ---- a test
pub column-test : {ps codes m out : List ℕ} → TableColumns ps codes → MarkColumn ps m → length out ≡ length ps → TestPass codes m out
column-test t c e =
    record { columns = record { marked = c.marked; size = c.size ∙ sym e; codes-size = t.size ∙ sym e }; coded = t.coded }

-- ---- forward: the axis, then the test
module _ (ps codes m out : List ℕ) (h : StepPass ps codes m out) where
  pub pass-axis : AxisPass ps m out
  pass-axis = record { before = h.table.before; filled = h.table.filled; marked = h.column.marked; size = h.column.size; room = h.room }

  pub moved-test : (p : Step) (x y : List ℕ) → x ≡ written_marks (written_axis p.axis) ps m → length y ≡ length m → TestPass codes x y
  moved-test p x y e d = column-test h.table (rw e (written-column (written_axis p.axis) ps m)) (d ∙ h.column.size)

  pub moved : (p : Step) (x y : List ℕ) → x ≡ written_marks (written_axis p.axis) ps m → y ≡ intersection x (test_marks (node_test p.test) (names_in codes))
      → y ≡ forward_marks ps codes p m
  unfolding forward_marks
  moved p x y e f = f ∙ ap (λ (l : List ℕ). intersection l (test_marks (node_test p.test) (names_in codes))) e

  -- ---- back: the test, then the inverse axis
  pub pass-test : TestPass codes m out
  pass-test = column-test h.table h.column h.room

  module _ (p : Step) (k : List ℕ) (e : k ≡ intersection m (test_marks (node_test p.test) (names_in codes))) where
    tested-column : MarkColumn ps k
    tested-column = rw e (intersection-column ps m (test_marks (node_test p.test) (names_in codes)) h.column)

    pub tested-marks : OnlyMarks k
    tested-marks = tested-column.marked

    pub tested-axis : AxisPass ps k m
    tested-axis =
        record {
          before = h.table.before;
          filled = h.table.filled;
          marked = tested-column.marked;
          size = tested-column.size;
          room = h.column.size;
        }

    pub moved_back : (a : WrittenAxis) (x : List ℕ) → a ≡ inverse_written (written_axis p.axis) → x ≡ written_marks a ps k → x ≡ backward_marks ps codes p m
    unfolding backward_marks
    moved_back a x d f =
        f ∙ ap (written_marks a ps) e ∙ ap (λ (b : WrittenAxis). written_marks b ps (intersection m (test_marks (node_test p.test) (names_in codes)))) d

    -- no marked row passes the test
    pub none-back : (x : List ℕ) → any_below (length k) (is_marked k) ≡ false → x ≡ replicate (length m) 0 → x ≡ backward_marks ps codes p m
    unfolding backward_marks
    none-back x d f =
        f ∙ ap (λ (n : ℕ). replicate n 0) h.column.size ∙ fill-marks (length ps) false
        ∙ sym (ap (written_marks (inverse_written (written_axis p.axis)) ps) (sym e ∙ no-row-marked k tested-marks d ∙ ap no_marks tested-column.size) ∙ written_none (inverse_written (written_axis p.axis)) ps)
