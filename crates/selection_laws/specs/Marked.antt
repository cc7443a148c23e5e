-- Columns that mark the nodes of a document that pass a test.
use Rattle.std.specs.Prelude.{Bool, true, false, cond, ◌&&◌, ◌||◌, List, [], ◌∷◌, map, ◌≡◌, refl, ℕ, zero, suc, eqb, length, get_or}
use Rattle.std.proofs.Math.Option.{some}
use Rattle.std.proofs.Common.{sym, ◌∙◌, arith}
use Rattle.std.proofs.Math.Path.{ap}
use Rattle.std.proofs.Math.ListN.{get_elem?}
use Rattle.std.proofs.lemmas.List.{length-map}
use Rattle.cells.specs.row_sets.Columns.{RowSet, mark, is_marked, marks, union, intersection, picked, mark-test, marks-length, marks-marked}
use Rattle.path_spec.specs.Paths.{WrittenAxis, NodeTest}
use Rattle.path_spec.specs.Selection.{passes, on_written}
use Rattle.selection_laws.specs.Axes.{written-axis-rows}
use Rattle.selection_laws.specs.marks.Order.{row_on_written, written-rows}
use Rattle.selection_laws.specs.marks.Selection.{written_marks, test_marks}
use Rattle.table_laws.specs.Parents.{NodeAt, Placed}
use Rattle.table_laws.specs.Places.{at_bound, none-some}
use Rattle.table_spec.specs.Nodes.{Node, name_of}
use Rattle.text_laws.specs.Lists.{any-of-cond}
use Rattle.text_laws.specs.Searches.{any-never, any-zero}
use Rattle.text_spec.specs.Lists.{any_of, any_below, filter_by}

pub record Marked (doc : List Node) (f : Node → Bool) (m : List ℕ) : Type 0 where
  pub size : length m ≡ length doc
  pub at : (r : ℕ) (y : Node) → NodeAt doc r y → is_marked m r ≡ f y

-- ---- what stands at the marked rows
pub any-picked : {A : Type 0} (g : A → Bool) (h : RowSet) (m : List ℕ) (xs : List A) → length m ≡ length xs
    → ((q : ℕ) (x : A) → get_elem? xs q ≡ some x → g x ≡ h q) → any_of g (picked m xs) ≡ any_below (length xs) (λ q. is_marked m q && h q)
unfolding picked
any-picked g h m [] e k = sym (any-never 0 (λ q. is_marked m q && h q) (λ q l t. absurd (omega arith)))
any-picked g h [] (x ∷ xs) e k = absurd (omega arith)
any-picked g h (b ∷ m) (x ∷ xs) e k =
    any-of-cond g (eqb b 1) x (picked m xs) ∙ ap (λ (t : Bool). (eqb b 1 && t) || any_of g (picked m xs)) (k 0 x refl)
    ∙ ap (λ (t : Bool). (eqb b 1 && h 0) || t) (any-picked g (λ q. h (suc q)) m xs (omega arith) (λ q y a. k (suc q) y a))
    ∙ sym (any-zero (length xs) (λ q. is_marked (b ∷ m) q && h q))

filter-picked : {A : Type 0} (f : A → Bool) (m : List ℕ) (xs : List A) → length m ≡ length xs → ((q : ℕ) (x : A) → get_elem? xs q ≡ some x → is_marked m q ≡ f x)
    → filter_by f xs ≡ picked m xs
unfolding picked
filter-picked f m [] e k = refl
filter-picked f [] (x ∷ xs) e k = absurd (omega arith)
filter-picked {A} f (b ∷ m) (x ∷ xs) e k =
    ap (λ (t : Bool). cond t (x ∷ filter_by f xs) (filter_by f xs)) (sym (k 0 x refl))
    ∙ ap (λ (l : List A). cond (eqb b 1) (x ∷ l) l) (filter-picked f m xs (omega arith) (λ q y a. k (suc q) y a))

pub marked-picked : (doc : List Node) (f : Node → Bool) (m : List ℕ) → Marked doc f m → filter_by f doc ≡ picked m doc
marked-picked doc f m h = filter-picked f m doc h.size h.at

pub map-picked : {A B : Type 0} (f : A → B) (m : List ℕ) (xs : List A) → map f (picked m xs) ≡ picked m (map f xs)
unfolding picked
map-picked f m [] = refl
map-picked f [] (x ∷ xs) = refl
map-picked {A} {B} f (b ∷ m) (x ∷ xs) = pick (eqb b 1) (map-picked f m xs)
  where
    pick : (t : Bool) → map f (picked m xs) ≡ picked m (map f xs) → map f (cond t (x ∷ picked m xs) (picked m xs)) ≡ cond t (f x ∷ picked m (map f xs)) (picked m (map f xs))
    pick true e = ap (λ (l : List B). f x ∷ l) e
    pick false e = e

-- ---- columns by rows
module _ (doc : List Node) where
  -- the column of a set of rows
  pub rows-marked : (n : ℕ) (g : RowSet) (f : Node → Bool) → n ≡ length doc → ((r : ℕ) (y : Node) → NodeAt doc r y → g r ≡ f y) → Marked doc f (marks n g)
  rows-marked n g f e h = record { size = marks-length n g ∙ e; at = λ r y a. marks-marked n g r (omega (arith, at_bound doc r y a)) ∙ h r y a }

  module _ (f g : Node → Bool) (m k : List ℕ) (u : Marked doc f m) (v : Marked doc g k) where
    pub intersection-marked : Marked doc (λ y. f y && g y) (intersection m k)
    unfolding intersection
    intersection-marked =
        rows-marked (length m) (λ r. is_marked m r && is_marked k r) (λ y. f y && g y) u.size
        (λ r y a. ap (λ (b : Bool). b && is_marked k r) (u.at r y a) ∙ ap (λ (b : Bool). f y && b) (v.at r y a))

    pub union-marked : Marked doc (λ y. f y || g y) (union m k)
    unfolding union
    union-marked =
        rows-marked (length m) (λ r. is_marked m r || is_marked k r) (λ y. f y || g y) u.size
        (λ r y a. ap (λ (b : Bool). b || is_marked k r) (u.at r y a) ∙ ap (λ (b : Bool). f y || b) (v.at r y a))

  pub same-marked : (f g : Node → Bool) (m : List ℕ) → ((r : ℕ) (y : Node) → NodeAt doc r y → f y ≡ g y) → Marked doc f m → Marked doc g m
  same-marked f g m h u = record { size = u.size; at = λ r y a. u.at r y a ∙ h r y a }

test_at : (t : NodeTest ℕ) (doc : List Node) (r : ℕ) (y : Node) → NodeAt doc r y → get_or (map (λ n. mark (passes t n)) (map name_of doc)) r 0 ≡ mark (passes t (name_of y))
test_at t [] r y a = none-some a
test_at t (x ∷ doc) zero y a = let h : x ≡ y = cc in ap (λ (z : Node). mark (passes t (name_of z))) h
test_at t (x ∷ doc) (suc r) y a = test_at t doc r y a

pub test-marked : (t : NodeTest ℕ) (doc : List Node) → Marked doc (λ y. passes t (name_of y)) (test_marks t (map name_of doc))
unfolding test_marks
test-marked t doc =
    record {
      size = length-map (map name_of doc) (λ n. mark (passes t n)) ∙ length-map doc name_of;
      at = λ r y a. ap (λ (k : ℕ). eqb k 1) (test_at t doc r y a) ∙ mark-test (passes t (name_of y));
    }

-- ---- an axis: a row is marked after exactly if a marked row's node has its node on the axis
pub written-marked : (ps : List ℕ) (doc : List Node) → Placed ps doc → (a : WrittenAxis) (m : List ℕ) → length m ≡ length doc
    → Marked doc (λ y. any_of (λ x. on_written a x y) (picked m doc)) (written_marks a ps m)
written-marked ps doc tree a m e =
    rw (written-rows ps tree.before m tree.opens a)
    (rows-marked doc (length ps) (λ r. any_below (length ps) (λ q. is_marked m q && row_on_written a ps q r)) (λ y. any_of (λ x. on_written a x y) (picked m doc)) (sym tree.size)
    (λ r y at-r.
    ap (λ (n : ℕ). any_below n (λ q. is_marked m q && row_on_written a ps q r)) (sym tree.size)
    ∙ sym (any-picked (λ x. on_written a x y) (λ q. row_on_written a ps q r) m doc e (λ q x at-q. written-axis-rows ps doc tree a q r x y at-q at-r))))
