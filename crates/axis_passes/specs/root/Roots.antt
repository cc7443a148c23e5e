-- The first step of a path: what the passes from the root ask, and what they leave.
use Rattle.std.specs.Prelude.{Bool, cond, not, ◌&&◌, ◌≡◌, ℕ, zero, suc, ◌<◌, length, get_or, set, replicate}
use Rattle.std.specs.Int.{from_bool}
use Rattle.std.proofs.Math.Bool.{true, false}
use mathlib.Core.List.{List}
use Rattle.std.proofs.Math.Path.{refl, ap}
use Rattle.std.proofs.Common.{sym, ◌∙◌, arith, length-set, get_or-set_same, get_or-set_other}
use borrow.Author.Tests.{eq-eqb, ne_eqb}
use Rattle.std.proofs.Math.Dec.{eqb}
use Rattle.axis_passes.specs.name_tests.Tests.{names_in, TestPass, bool-mark}
use Rattle.axis_passes.specs.steps.Steps.{forward_marks, TableColumns, written-column, column-test}
use Rattle.cells.specs.row_sets.Columns.{RowSet, mark, marks, intersection, marks-length, marks-at, marks-by-rows}
use Rattle.compiled_paths.specs.Columns.{axis_of, written_of}
use Rattle.compiled_paths.specs.Steps.{written_axis, node_test}
use Rattle.compiled_paths.specs.declared.Step.{Step}
use Rattle.path_spec.specs.Paths.{self, child, ancestor_or_self, WrittenAxis, along}
use Rattle.selection_laws.specs.marks.Passes.{fill-marks}
use Rattle.selection_laws.specs.marks.Roots.{root_image, root_written, root-written-marks}
use Rattle.selection_laws.specs.marks.Selection.{written_marks, root_marks, test_marks}
use Rattle.table_laws.specs.Parents.{ParentsBefore}

-- the parents of a table that is not empty, and room for a column
pub record RootPass (ps out : List ℕ) : Type 0 where
  pub before : ParentsBefore ps
  pub filled : 0 < length ps
  pub room : length out ≡ length ps

-- a table and room for two columns
pub record FirstPass (ps codes m out : List ℕ) : Type 0 where
  pub table : TableColumns ps codes
  pub room-marks : length m ≡ length ps
  pub room_next : length out ≡ length ps

-- ---- the first row by itself, the others from a column
first-set : (n : ℕ) (f g : RowSet) (b : Bool) (k : List ℕ) (x : ℕ) → 0 < n → k ≡ marks n g → x ≡ mark b → f 0 ≡ b → ((r : ℕ) → 0 < r → f r ≡ g r) → set k 0 x ≡ marks n f
first-set n f g b k x l e d z h = marks-by-rows n f (set k 0 x) (length-set k 0 x ∙ long) row
  where
    long : length k ≡ n
    long = ap length e ∙ marks-length n g

    row : (r : ℕ) → r < n → get_or (set k 0 x) r 0 ≡ mark (f r)
    row zero a = get_or-set_same k 0 x 0 (omega (arith, long)) ∙ d ∙ sym (ap mark z)
    row (suc r) a =
        get_or-set_other k 0 (suc r) x 0 (λ q. omega arith) ∙ ap (λ (l : List ℕ). get_or l (suc r) 0) e ∙ marks-at n g (suc r) a
        ∙ sym (ap mark (h (suc r) (omega arith)))

module _ (n : ℕ) (k : List ℕ) (l : 0 < n) where
  pub root-set : k ≡ replicate n 0 → set k 0 1 ≡ root_marks n
  unfolding root_marks
  root-set e =
      first-set n (λ r. eqb r 0) (λ r. false) true k 1 l (e ∙ fill-marks n false) refl (eq-eqb 0 0 refl) (λ r p. ne_eqb r 0 (λ q. omega arith))

  pub later-set : k ≡ replicate n 1 → set k 0 0 ≡ marks n (λ r. not (eqb r 0))
  later-set e =
      first-set n (λ r. not (eqb r 0)) (λ r. true) false k 0 l (e ∙ fill-marks n true) refl (ap not (eq-eqb 0 0 refl)) (λ r p. ap not (ne_eqb r 0 (λ q. omega arith)))

-- the rows whose parent's cell has the root
abbrev pub at_root : List ℕ → RowSet
at_root ps r = eqb (get_or ps r 0) 0

pub children-set : (ps k : List ℕ) → 0 < length ps → k ≡ marks (length ps) (at_root ps) → set k 0 0 ≡ marks (length ps) (root_image child ps)
unfolding root_image
children-set ps k l e =
    first-set (length ps) (root_image child ps) (at_root ps) false k 0 l e refl (ap (λ (b : Bool). not b && at_root ps 0) (eq-eqb 0 0 refl))
    (λ r p. ap (λ (b : Bool). not b && at_root ps r) (ne_eqb r 0 (λ q. omega arith)))

pub at-root-length : (ps out : List ℕ) → length out ≡ length ps → length out ≡ length (marks (length ps) (at_root ps))
at-root-length ps out e = e ∙ sym (marks-length (length ps) (at_root ps))

pub at-root-row : (ps : List ℕ) (r : ℕ) → r < length ps → from_bool (eqb (get_or ps r 0) 0) ≡ get_or (marks (length ps) (at_root ps)) r 0
at-root-row ps r l = bool-mark (at_root ps r) ∙ sym (marks-at (length ps) (at_root ps) r l)

-- ---- each axis
module _ (ps was : List ℕ) (h : RootPass ps was) where
  -- the rows on it are given for as many rows as the column has
  pub root-axis : (a : WrittenAxis) (out : List ℕ) → out ≡ marks (length ps) (root_written a ps) → out ≡ written_marks a ps (root_marks (length ps))
  root-axis a out d = d ∙ sym (root-written-marks ps h.before a)

  pub filled-axis : (a : WrittenAxis) (byte : ℕ) (b : Bool) (out : List ℕ) → byte ≡ mark b → root_written a ps ≡ (λ r. b) → out ≡ replicate (length was) byte
      → out ≡ written_marks a ps (root_marks (length ps))
  filled-axis a byte b out d i f =
      root-axis a out
      (f ∙ ap (λ (x : ℕ). replicate (length was) x) d ∙ ap (λ (n : ℕ). replicate n (mark b)) h.room ∙ fill-marks (length ps) b ∙ ap (marks (length ps)) (sym i))

  pub later-axis : (out : List ℕ) → out ≡ marks (length was) (λ r. not (eqb r 0)) → out ≡ marks (length ps) (λ r. not (eqb r 0))
  later-axis out e = e ∙ ap (λ (n : ℕ). marks n (λ r. not (eqb r 0))) h.room

  -- an axis that leads from the root to itself alone
  pub root-alone : (a : WrittenAxis) (out : List ℕ) → root_written a ps ≡ (λ r. eqb r 0) → out ≡ root_marks (length was) → out ≡ written_marks a ps (root_marks (length ps))
  unfolding root_marks
  root-alone a out i d = root-axis a out (d ∙ ap root_marks h.room ∙ ap (marks (length ps)) (sym i))

  -- by their numbers the other axes lead from the root to itself alone
  rest-axis : (c : ℕ) → (c ≡ 1 → ⊥) → (c ≡ 2 → ⊥) → (c ≡ 3 → ⊥) → (c ≡ 4 → ⊥) → (c ≡ 5 → ⊥) → (c ≡ 7 → ⊥) → (c ≡ 8 → ⊥) → (c ≡ 9 → ⊥) → (c ≡ 10 → ⊥)
      → marks (length ps) (root_written (written_of c) ps) ≡ root_marks (length ps)
  unfolding written_of axis_of root_written root_image root_marks
  rest-axis c h1 h2 h3 h4 h5 h7 h8 h9 h10 =
      rw (ne_eqb c 7 h7, ne_eqb c 8 h8, ne_eqb c 9 h9, ne_eqb c 10 h10, ne_eqb c 1 h1, ne_eqb c 2 h2, ne_eqb c 3 h3, ne_eqb c 4 h4, ne_eqb c 5 h5)
      (pick (eqb c 6))
    where
      pick : (b : Bool) → marks (length ps) (root_written (along (cond b ancestor_or_self self)) ps) ≡ root_marks (length ps)
      pick true = refl
      pick false = refl

  pub root_kept : (c : ℕ) (out : List ℕ) → (c ≡ 1 → ⊥) → (c ≡ 2 → ⊥) → (c ≡ 3 → ⊥) → (c ≡ 4 → ⊥) → (c ≡ 5 → ⊥) → (c ≡ 7 → ⊥) → (c ≡ 8 → ⊥) → (c ≡ 9 → ⊥) → (c ≡ 10 → ⊥)
      → out ≡ root_marks (length was) → out ≡ written_marks (written_of c) ps (root_marks (length ps))
  root_kept c out h1 h2 h3 h4 h5 h7 h8 h9 h10 d =
      d ∙ ap root_marks h.room ∙ sym (rest-axis c h1 h2 h3 h4 h5 h7 h8 h9 h10) ∙ sym (root-written-marks ps h.before (written_of c))

  -- two of them have a name: self, number 0, and ancestor-or-self, number 6
  pub kept-self : (out : List ℕ) → out ≡ root_marks (length was) → out ≡ written_marks (along self) ps (root_marks (length ps))
  unfolding written_of axis_of
  kept-self out d =
      root_kept 0 out (λ e. omega arith) (λ e. omega arith) (λ e. omega arith) (λ e. omega arith) (λ e. omega arith) (λ e. omega arith) (λ e. omega arith) (λ e. omega arith) (λ e. omega arith) d

  pub kept-above : (out : List ℕ) → out ≡ root_marks (length was) → out ≡ written_marks (along ancestor_or_self) ps (root_marks (length ps))
  unfolding written_of axis_of
  kept-above out d =
      root_kept 6 out (λ e. omega arith) (λ e. omega arith) (λ e. omega arith) (λ e. omega arith) (λ e. omega arith) (λ e. omega arith) (λ e. omega arith) (λ e. omega arith) (λ e. omega arith) d

-- ---- the axis from the root, then the test
module _ (ps codes m out : List ℕ) (h : FirstPass ps codes m out) where
  pub first-root : RootPass ps out
  first-root = record { before = h.table.before; filled = h.table.filled; room = h.room_next }

  module _ (p : Step) (x : List ℕ) (e : x ≡ written_marks (written_axis p.axis) ps (root_marks (length ps))) where
    pub first-test : TestPass codes x m
    first-test = column-test h.table (rw e (written-column (written_axis p.axis) ps (root_marks (length ps)))) h.room-marks

    pub first-marked : (y : List ℕ) → y ≡ intersection x (test_marks (node_test p.test) (names_in codes)) → y ≡ forward_marks ps codes p (root_marks (length ps))
    unfolding forward_marks
    first-marked y f = f ∙ ap (λ (l : List ℕ). intersection l (test_marks (node_test p.test) (names_in codes))) e
