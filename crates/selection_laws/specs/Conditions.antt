-- A condition judged for all rows at once, from its last step back by inverse axes, holds where the definition says.
use Rattle.std.proofs.Math.Bool.{Bool, and_comm, or-false, or_assoc}
use Rattle.std.specs.Prelude.{true, false, not, ◌&&◌, ◌||◌, ◌≡◌, refl, length}
use mathlib.Core.List.{List, [], ◌∷◌, map}
use Rattle.std.proofs.Math.Path.{sym, ap}
use Rattle.std.proofs.Common.{◌∙◌}
use Prim.Native.Nat.{ℕ}
use Rattle.cells.specs.row_sets.Columns.{marks, union, intersection, picked}
use Rattle.path_laws.specs.Inverses.{inverse_written, inverse-written}
use Rattle.path_spec.specs.Paths.{WrittenAxis, PlainStep, Condition, unconditional, alternatives}
use Rattle.path_spec.specs.Selection.{passes, on_written, step_from, path_from, always, holds_at}
use Rattle.selection_laws.specs.Marked.{Marked, marked-picked, rows-marked, intersection-marked, union-marked, same-marked, test-marked, written-marked}
use Rattle.selection_laws.specs.marks.Selection.{inverse_marks, no_marks, test_marks, alternative_marks, alternatives_marks, condition_marks}
use Rattle.table_laws.specs.Parents.{Placed}
use Rattle.table_spec.specs.Nodes.{Node, name_of}
use Rattle.text_laws.specs.Lists.{any-of-cong, any-of-filter, any-of-any, filled-any}
use Rattle.text_spec.specs.Lists.{any_of, is_empty}

-- ---- the nodes from which steps without brackets lead to some node
abbrev pub leads : List Node → List (PlainStep ℕ) → Node → Bool
leads doc [] x = true
leads doc (q ∷ qs) x = any_of (λ y. on_written q.axis x y && (passes q.test (name_of y) && leads doc qs y)) doc

pub path-leads : (doc : List Node) (q : List (PlainStep ℕ)) (xs : List Node) → not (is_empty (path_from always doc q xs)) ≡ any_of (leads doc q) xs
path-leads doc [] xs = filled-any xs
path-leads doc (q ∷ qs) xs =
    path-leads doc qs (step_from always doc q xs)
    ∙ any-of-filter (leads doc qs) (λ y. any_of (λ x. on_written q.axis x y) xs && (passes q.test (name_of y) && true)) doc
    ∙ any-of-cong (λ y. (any_of (λ x. on_written q.axis x y) xs && (passes q.test (name_of y) && true)) && leads doc qs y)
    (λ y. any_of (λ x. on_written q.axis x y) xs && (passes q.test (name_of y) && leads doc qs y)) doc
    (λ y. regroup (any_of (λ x. on_written q.axis x y) xs) (passes q.test (name_of y)) (leads doc qs y))
    ∙ any-of-any (λ x y. on_written q.axis x y) (λ y. passes q.test (name_of y) && leads doc qs y) xs doc
  where
    regroup : (a b c : Bool) → ((a && (b && true)) && c) ≡ (a && (b && c))
    regroup true true c = refl
    regroup true false c = refl
    regroup false b c = refl

-- ---- backwards on columns
module _ (ps : List ℕ) (doc : List Node) (tree : Placed ps doc) where
  all-marked : Marked doc (λ y. true) (marks (length ps) (λ r. true))
  all-marked = rows-marked doc (length ps) (λ r. true) (λ y. true) (sym tree.size) (λ r y a. refl)

  none-marked : Marked doc (λ y. false) (marks (length ps) (λ r. false))
  none-marked = rows-marked doc (length ps) (λ r. false) (λ y. false) (sym tree.size) (λ r y a. refl)

  inverse-marked : (a : WrittenAxis) (g : Node → Bool) (m : List ℕ) → Marked doc g m → Marked doc (λ x. any_of (λ y. on_written a x y && g y) doc) (inverse_marks a ps m)
  inverse-marked a g m u =
      same-marked doc (λ x. any_of (λ y. on_written (inverse_written a) y x) (picked m doc)) (λ x. any_of (λ y. on_written a x y && g y) doc) (inverse_marks a ps m)
      (λ r x at-r.
      ap (any_of (λ y. on_written (inverse_written a) y x)) (sym (marked-picked doc g m u))
      ∙ any-of-filter (λ y. on_written (inverse_written a) y x) g doc
      ∙ any-of-cong (λ y. g y && on_written (inverse_written a) y x) (λ y. on_written a x y && g y) doc
      (λ y. and_comm (g y) (on_written (inverse_written a) y x) ∙ ap (λ (b : Bool). b && g y) (inverse-written a y x)))
      (written-marked ps doc tree (inverse_written a) m u.size)

  pub steps-lead-marked : (q : List (PlainStep ℕ)) → Marked doc (leads doc q) (alternative_marks ps (map name_of doc) q)
  unfolding alternative_marks
  steps-lead-marked [] = all-marked
  steps-lead-marked (q ∷ qs) =
      let g : Node → Bool = λ y. leads doc qs y && passes q.test (name_of y) in
      let k : List ℕ = alternative_marks ps (map name_of doc) qs in
      let t : List ℕ = test_marks q.test (map name_of doc) in
      same-marked doc (λ x. any_of (λ y. on_written q.axis x y && g y) doc) (leads doc (q ∷ qs)) (inverse_marks q.axis ps (intersection k t))
      (λ r x a.
      any-of-cong (λ y. on_written q.axis x y && g y) (λ y. on_written q.axis x y && (passes q.test (name_of y) && leads doc qs y)) doc
      (λ y. ap (λ (b : Bool). on_written q.axis x y && b) (and_comm (leads doc qs y) (passes q.test (name_of y)))))
      (inverse-marked q.axis g (intersection k t) (intersection-marked doc (leads doc qs) (λ y. passes q.test (name_of y)) k t (steps-lead-marked qs) (test-marked q.test doc)))

  -- an alternative selects a node
  abbrev selects : Node → List (PlainStep ℕ) → Bool
  selects y q = not (is_empty (path_from always doc q (y ∷ [])))

  alternative-marked : (q : List (PlainStep ℕ)) → Marked doc (λ y. selects y q) (alternative_marks ps (map name_of doc) q)
  alternative-marked q =
      same-marked doc (leads doc q) (λ y. selects y q) (alternative_marks ps (map name_of doc) q)
      (λ r y a. sym (or-false (leads doc q y)) ∙ sym (path-leads doc q (y ∷ []))) (steps-lead-marked q)

  alternatives-marked : (qs : List (List (PlainStep ℕ))) (f : Node → Bool) (m : List ℕ) → Marked doc f m
      → Marked doc (λ y. f y || any_of (selects y) qs) (alternatives_marks ps (map name_of doc) m qs)
  unfolding alternatives_marks
  alternatives-marked [] f m u = same-marked doc f (λ y. f y || false) m (λ r y a. sym (or-false (f y))) u
  alternatives-marked (q ∷ qs) f m u =
      let k : List ℕ = alternative_marks ps (map name_of doc) q in
      same-marked doc (λ y. (f y || selects y q) || any_of (selects y) qs) (λ y. f y || any_of (selects y) (q ∷ qs)) (alternatives_marks ps (map name_of doc) (union m k) qs)
      (λ r y a. or_assoc (f y) (selects y q) (any_of (selects y) qs))
      (alternatives-marked qs (λ y. f y || selects y q) (union m k) (union-marked doc f (λ y. selects y q) m k u (alternative-marked q)))

  -- the rows that a condition's column marks are those at whose nodes it holds
  pub condition-marked : (c : Condition ℕ) → Marked doc (holds_at doc c) (condition_marks ps (map name_of doc) c)
  unfolding condition_marks
  condition-marked unconditional = all-marked
  condition-marked (alternatives qs) = alternatives-marked qs (λ y. false) (no_marks (length ps)) none-marked
