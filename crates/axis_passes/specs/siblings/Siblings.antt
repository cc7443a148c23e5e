-- The passes for siblings: what both use of the column of parents, and what one pass leaves to the next.
use Rattle.std.proofs.Math.Bool.{or-false}
use Rattle.std.specs.Prelude.{List, ◌≡◌, ℕ, ◌<◌, T, eqb, length, get_or}
use Rattle.std.proofs.Common.{sym, ap, subst, ◌∙◌}
use Rattle.std.proofs.Math.Dec.{eqb_refl}
use Rattle.axis_passes.specs.steps.Steps.{MarkColumn}
use Rattle.cells.specs.row_sets.Ancestors.{parent_of, is_in, later-parent}
use Rattle.path_spec.specs.Paths.{descendant_or_self, ancestor_or_self}
use Rattle.selection_laws.specs.marks.Parents.{image_marks}
use Rattle.selection_laws.specs.marks.Passes.{AxisPass}

-- a row that is not the root is a child of its parent
pub child-of-own : (ps : List ℕ) (c a : ℕ) → 0 < c → a ≡ get_or ps c 0 → T (is_in a (parent_of ps c))
child-of-own ps c a l e =
    subst T (sym (ap (is_in a) (later-parent ps c l) ∙ or-false (eqb a (get_or ps c 0)))) (subst (λ (k : ℕ). T (eqb a k)) e (eqb_refl a))

-- the next pass goes over the column that a pass has left
pub next-pass : {ps m was k : List ℕ} (x y : List ℕ) → AxisPass ps m was → MarkColumn ps k → x ≡ k → length y ≡ length ps → AxisPass ps x y
next-pass x y h c d e = rw d (record { before = h.before; filled = h.filled; marked = c.marked; size = c.size; room = e })

-- up, to siblings, down
pub passes-joined : (ps m : List ℕ) (siblings : List ℕ → List ℕ) (x y z : List ℕ) → x ≡ image_marks ancestor_or_self ps m → y ≡ siblings x → z ≡ image_marks descendant_or_self ps y
    → z ≡ image_marks descendant_or_self ps (siblings (image_marks ancestor_or_self ps m))
passes-joined ps m siblings x y z d e f = f ∙ ap (image_marks descendant_or_self ps) (e ∙ ap siblings d)
