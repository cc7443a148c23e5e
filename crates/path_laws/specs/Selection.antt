-- What a path selects by computing is what it selects as a set of nodes, given in document order.
use Rattle.std.specs.Prelude.{Bool, true, false, cond, not, ◌&&◌, ◌≡◌, refl, ℕ, suc, ◌<◌, T, ltb}
use mathlib.Core.List.Memᴰ.{eq_of_singleton as of-singleton}
use mathlib.Core.List.Memᴰ.{head as here}
use mathlib.Core.List.Memᴰ.{tail as there}
use mathlib.Core.List.Pairwise
use mathlib.Core.List.{List, [], ◌∷◌, map, Memᴰ as In, Sublistᴰ, Pairwise}
use Rattle.std.proofs.Common.{⊎_elim, sym, ap, subst, arith, eqb→eq, ltb→lt, lt→ltb}
use Rattle.std.proofs.Math.Logic.{∥∥₁_elim}
use Rattle.std.proofs.Math.Bridge.{le_prop}
use Rattle.std.proofs.Math.Dec.{eqb_refl}
use Rattle.path_spec.specs.Paths.{Axis, self, child, descendant, descendant_or_self, parent, ancestor, ancestor_or_self, WrittenAxis, along, following, following_sibling, preceding, preceding_sibling, NodeTest, named, any_node, any_text, WrittenStep, PlainStep, Condition, unconditional, alternatives, Start, root_element, LocationPath}
use Rattle.path_spec.specs.Selection.{NodeSet, Passes, passes-name, passes-node, passes-text, OnAxis, on-self, on-child, on-descendant, here-or-below, below-or-here, on-parent, on-ancestor, here-or-above, above-or-here, Siblings, siblings, Follows, OnWritten, on-along, on-following, on-following-sibling, on-preceding, on-preceding-sibling, StepSet, PathSet, Always, Only, Holds, no-condition, alternative, StartSet, Selected, passes, on_axis, are_siblings, follows, on_written, step_from, path_from, always, holds_at, start_nodes, selected, select, select_rows}
use Rattle.schema_spec.specs.Names.{Name, element, text}
use Rattle.schema_spec.specs.Types.{Types}
use Rattle.table_laws.specs.Nodes.{nodes-equal, nodes-same, parent-edge, edge-parent, test-above, above-test}
use Rattle.table_laws.specs.Parents.{nodes-numbered}
use Rattle.table_spec.specs.Conditions.{RowAt, WellFormed}
use Rattle.table_spec.specs.Nodes.{Node, top, under, nodes_of, node_number, name_of, is_top, same, edge, is_above}
use Rattle.table_spec.specs.Rows.{Row}
use Rattle.text_laws.specs.Lists.{any-in, in-any, in-filter, filter-in, member-fills}
use Rattle.text_laws.specs.Tests.{or_left, or_right, or_cases, and_intro, and_cases, not-intro, not-elim}
use Rattle.text_spec.specs.Lists.{any_of, filter_by, is_empty}

-- ---- tests and axes
pub passes-test : (t : NodeTest ℕ) (n : Name) → T (passes t n) → Passes t n
passes-test (named e) (element f) t = subst (λ (g : ℕ). Passes (named e) (element g)) (eqb→eq e f t) passes-name
passes-test (named e) (text f) t = absurd t
passes-test any_node n t = passes-node
passes-test any_text (element f) t = absurd t
passes-test any_text (text f) t = passes-text

pub test-passes : {t : NodeTest ℕ} {n : Name} → Passes t n → T (passes t n)
test-passes (passes-name {e = e}) = eqb_refl e
test-passes passes-node = tt
test-passes passes-text = tt

pub test-on-axis : (a : Axis) (x y : Node) → T (on_axis a x y) → OnAxis a x y
test-on-axis self x y t = subst (λ (z : Node). OnAxis self x z) (nodes-equal x y t) on-self
test-on-axis child x y t = on-child (parent-edge x y t)
test-on-axis descendant x y t = on-descendant (test-above x y t)
test-on-axis descendant_or_self x y t =
    ⊎_elim (λ h. subst (λ (z : Node). OnAxis descendant_or_self x z) (nodes-equal x y h) here-or-below) (λ h. below-or-here (test-above x y h))
    (or_cases (same x y) (is_above x y) t)
test-on-axis parent x y t = on-parent (parent-edge y x t)
test-on-axis ancestor x y t = on-ancestor (test-above y x t)
test-on-axis ancestor_or_self x y t =
    ⊎_elim (λ h. subst (λ (z : Node). OnAxis ancestor_or_self x z) (nodes-equal x y h) here-or-above) (λ h. above-or-here (test-above y x h))
    (or_cases (same x y) (is_above y x) t)

pub on-axis-test : {a : Axis} {x y : Node} → OnAxis a x y → T (on_axis a x y)
on-axis-test (on-self {x = x}) = nodes-same x
on-axis-test (on-child e) = edge-parent e
on-axis-test (on-descendant a) = above-test a
on-axis-test (here-or-below {x = x}) = or_left (same x x) (is_above x x) (nodes-same x)
on-axis-test (below-or-here {x = x} {y = y} a) = or_right (same x y) (is_above x y) (above-test a)
on-axis-test (on-parent e) = edge-parent e
on-axis-test (on-ancestor a) = above-test a
on-axis-test (here-or-above {x = x}) = or_left (same x x) (is_above x x) (nodes-same x)
on-axis-test (above-or-here {x = x} {y = y} a) = or_right (same x y) (is_above y x) (above-test a)

pub test-siblings : (x y : Node) → T (are_siblings x y) → Siblings x y
test-siblings (top k n) y t = absurd t
test-siblings (under k n w p) y t = siblings edge (parent-edge p y t)

pub siblings-test : {x y : Node} → Siblings x y → T (are_siblings x y)
siblings-test (siblings edge e) = edge-parent e

pub test-follows : (x y : Node) → T (follows x y) → Follows x y
test-follows x y t =
    let c = and_cases (ltb (node_number x) (node_number y)) (not (is_above x y) && not (is_above y x)) t in
    let d = and_cases (not (is_above x y)) (not (is_above y x)) c.1 in
    record {
      after = ltb→lt (node_number x) (node_number y) c.0;
      no-descendant = λ a. not-elim (is_above x y) d.0 (above-test a);
      no-ancestor = λ a. not-elim (is_above y x) d.1 (above-test a);
    }

pub follows_test : {x y : Node} → Follows x y → T (follows x y)
follows_test {x} {y} f =
    and_intro (ltb (node_number x) (node_number y)) (not (is_above x y) && not (is_above y x)) (lt→ltb (node_number x) (node_number y) f.after)
    (and_intro (not (is_above x y)) (not (is_above y x)) (not-intro (is_above x y) (λ t. f.no-descendant (test-above x y t)))
    (not-intro (is_above y x) (λ t. f.no-ancestor (test-above y x t))))

pub test-on-written : (a : WrittenAxis) (x y : Node) → T (on_written a x y) → OnWritten a x y
test-on-written (along a) x y t = on-along (test-on-axis a x y t)
test-on-written following x y t = on-following (test-follows x y t)
test-on-written following_sibling x y t =
    let c = and_cases (are_siblings x y) (ltb (node_number x) (node_number y)) t in
    on-following-sibling (test-siblings x y c.0) (ltb→lt (node_number x) (node_number y) c.1)
test-on-written preceding x y t = on-preceding (test-follows y x t)
test-on-written preceding_sibling x y t =
    let c = and_cases (are_siblings x y) (ltb (node_number y) (node_number x)) t in
    on-preceding-sibling (test-siblings x y c.0) (ltb→lt (node_number y) (node_number x) c.1)

pub on-written-test : {a : WrittenAxis} {x y : Node} → OnWritten a x y → T (on_written a x y)
on-written-test (on-along o) = on-axis-test o
on-written-test (on-following f) = follows_test f
on-written-test (on-following-sibling {x = x} {y = y} s l) = and_intro (are_siblings x y) (ltb (node_number x) (node_number y)) (siblings-test s) (lt→ltb (node_number x) (node_number y) l)
on-written-test (on-preceding f) = follows_test f
on-written-test (on-preceding-sibling {x = x} {y = y} s l) = and_intro (are_siblings x y) (ltb (node_number y) (node_number x)) (siblings-test s) (lt→ltb (node_number y) (node_number x) l)

-- a list has exactly the members of a set
pub record Members (xs : List Node) (S : NodeSet) : Type 0 where
  pub sound : (y : Node) → In y xs → S y
  pub complete : (y : Node) → S y → In y xs

-- ---- steps and paths, over a condition whose test means what it says
module _ {C : Type 0} (doc : List Node) (Meets : C → NodeSet) (meets : List Node → C → Node → Bool)
    (met : (c : C) (y : Node) → T (meets doc c y) → Meets c y) (meet : (c : C) (y : Node) → Meets c y → T (meets doc c y)) where
  pub step-members : {xs : List Node} {S : NodeSet} (p : WrittenStep ℕ C) → Members xs S → Members (step_from meets doc p xs) (StepSet doc Meets p S)
  step-members {xs} {S} p l = record { sound = to; complete = from }
    where
      reached : Node → Bool
      reached y = any_of (λ x. on_written p.axis x y) xs

      passed : Node → Bool
      passed y = passes p.test (name_of y) && meets doc p.condition y

      to : (y : Node) → In y (step_from meets doc p xs) → StepSet doc Meets p S y
      to y i =
          let f = filter-in (λ z. reached z && passed z) doc i in
          let c = and_cases (reached y) (passed y) f.1 in
          let d = and_cases (passes p.test (name_of y)) (meets doc p.condition y) c.1 in
          let r = in-any (λ x. on_written p.axis x y) xs c.0 in
          record {
            from = r.0;
            member = l.sound r.0 r.1;
            axis = test-on-written p.axis r.0 y r.2;
            present = f.0;
            test = passes-test p.test (name_of y) d.0;
            condition = met p.condition y d.1;
          }

      from : (y : Node) → StepSet doc Meets p S y → In y (step_from meets doc p xs)
      from y s =
          in-filter (λ z. reached z && passed z) s.present
          (and_intro (reached y) (passed y) (any-in (λ x. on_written p.axis x y) (l.complete s.from s.member) (on-written-test s.axis))
          (and_intro (passes p.test (name_of y)) (meets doc p.condition y) (test-passes s.test) (meet p.condition y s.condition)))

  pub path-members : {xs : List Node} {S : NodeSet} (ps : List (WrittenStep ℕ C)) → Members xs S → Members (path_from meets doc ps xs) (PathSet doc Meets ps S)
  path-members [] l = l
  path-members {xs = xs} (p ∷ ps) l = path-members {xs = step_from meets doc p xs} ps (step-members p l)

-- ---- conditions
pub plain-members : (doc : List Node) (q : List (PlainStep ℕ)) (y : Node) → Members (path_from always doc q (y ∷ [])) (PathSet doc Always q (Only y))
plain-members doc q y =
    path-members doc Always always (λ c z t. tt) (λ c z t. tt) q (record { sound = λ z i. sym (of-singleton i); complete = λ z e. here (sym e) })

filled : (xs : List Node) → T (not (is_empty xs)) → (z : Node) × In z xs
filled [] t = absurd t
filled (x ∷ xs) t = (x, here refl)

pub test-holds : (doc : List Node) (c : Condition ℕ) (y : Node) → T (holds_at doc c y) → Holds doc c y
test-holds doc unconditional y t = no-condition
test-holds doc (alternatives qs) y t =
    let r = in-any (λ q. not (is_empty (path_from always doc q (y ∷ [])))) qs t in
    let z = filled (path_from always doc r.0 (y ∷ [])) r.2 in
    alternative r.0 z.0 r.1 ((plain-members doc r.0 y).sound z.0 z.1)

pub holds_test : {doc : List Node} {c : Condition ℕ} {y : Node} → Holds doc c y → T (holds_at doc c y)
holds_test no-condition = tt
holds_test {doc} (alternative {y = y} q z i s) =
    any-in (λ p. not (is_empty (path_from always doc p (y ∷ [])))) i
    (not-intro (is_empty (path_from always doc q (y ∷ []))) (member-fills ((plain-members doc q y).complete z s)))

-- ---- a path selects what 000 says
start-members : (a : Start) (doc : List Node) → Members (start_nodes a doc) (StartSet a doc)
start-members root_element doc = record { sound = λ y i. filter-in is_top doc i; complete = λ y r. in-filter is_top r.0 r.1 }

pub selected-members : (doc : List Node) (p : LocationPath ℕ) → Members (selected doc p) (Selected doc p)
unfolding selected
selected-members doc p =
    path-members doc (Holds doc) holds_at (test-holds doc) (λ c y h. holds_test h) p.steps (start-members p.start doc)

pub selected-sound : (doc : List Node) (p : LocationPath ℕ) (y : Node) → In y (selected doc p) → Selected doc p y
selected-sound doc p y i = (selected-members doc p).sound y i

pub selected-complete : (doc : List Node) (p : LocationPath ℕ) (y : Node) → Selected doc p y → In y (selected doc p)
selected-complete doc p y s = (selected-members doc p).complete y s

-- ---- "Selection is a set, given in document order"
-- what a path leads to is picked from the document by a test, whatever it starts from
path-filters : {C : Type 0} (meets : List Node → C → Node → Bool) (doc : List Node) (ps : List (WrittenStep ℕ C)) {xs : List Node}
    → (f : Node → Bool) × (xs ≡ filter_by f doc) → (g : Node → Bool) × (path_from meets doc ps xs ≡ filter_by g doc)
path-filters meets doc [] h = h
path-filters meets doc (p ∷ ps) {xs} h = path-filters meets doc ps (_, refl)

start-filters : (a : Start) (doc : List Node) → (f : Node → Bool) × (start_nodes a doc ≡ filter_by f doc)
start-filters root_element doc = (is_top, refl)

pub selected-filters : (doc : List Node) (p : LocationPath ℕ) → (f : Node → Bool) × (selected doc p ≡ filter_by f doc)
unfolding selected
selected-filters doc p = path-filters holds_at doc p.steps (start-filters p.start doc)

filter-sublist : {A : Type 0} (f : A → Bool) (xs : List A) → Sublistᴰ (filter_by f xs) xs
filter-sublist f [] = Sublistᴰ.slnil
filter-sublist f (x ∷ xs) = pick (f x) (filter-sublist f xs)
  where
    pick : (b : Bool) → Sublistᴰ (filter_by f xs) xs → Sublistᴰ (cond b (x ∷ filter_by f xs) (filter_by f xs)) (x ∷ xs)
    pick true s = Sublistᴰ.cons-cons refl s
    pick false s = Sublistᴰ.cons s

pub selected-in-order : (doc : List Node) (p : LocationPath ℕ) → Sublistᴰ (selected doc p) doc
selected-in-order doc p =
    let h = selected-filters doc p in
    rw h.1 (filter-sublist h.0 doc)

sublist-map : {A B : Type 0} (f : A → B) {xs ys : List A} → Sublistᴰ xs ys → Sublistᴰ (map f xs) (map f ys)
sublist-map f Sublistᴰ.slnil = Sublistᴰ.slnil
sublist-map f (Sublistᴰ.cons s) = Sublistᴰ.cons (sublist-map f s)
sublist-map f (Sublistᴰ.cons-cons e s) = Sublistᴰ.cons-cons (ap f e) (sublist-map f s)

-- the numbers selected rise, where those of the document do
select-rises : (doc : List Node) (p : LocationPath ℕ) → Pairwise ◌<◌ (map node_number doc) → Pairwise ◌<◌ (select doc p)
unfolding select
select-rises doc p r = Pairwise.sublistᴰ (sublist-map node_number (selected-in-order doc p)) r

-- ---- on a table
-- each row's number is above that of the row before
abbrev RiseByOne : List Row → Type 0
RiseByOne rows = (i : ℕ) (q r : Row) → RowAt rows i q → RowAt rows (suc i) r → q.number < r.number

later-above : (r : Row) (rows : List Row) → RiseByOne (r ∷ rows) → (k : ℕ) → In k (map (λ q. q.number) rows) → r.number < k
later-above r [] h k i = elim i [ ]
later-above r (q ∷ rows) h k (here e) =
    let l : r.number < q.number = h 0 r q refl refl in
    omega arith
later-above r (q ∷ rows) h k (there i) =
    let l : r.number < q.number = h 0 r q refl refl in
    let m : q.number < k = later-above q rows (λ j x y a b. h (suc j) x y a b) k i in
    omega arith

all-rise : (rows : List Row) → RiseByOne rows → Pairwise ◌<◌ (map (λ r. r.number) rows)
all-rise [] h = Pairwise.nil
all-rise (r ∷ rows) h =
    Pairwise.cons (λ k m. ∥∥₁_elim m le_prop (λ i. later-above r rows h k i)) (all-rise rows (λ j x y a b. h (suc j) x y a b))

-- on every well-formed table the numbers selected rise strictly: each once, in document order
pub select-rows-rises : (s : Types) (lent : List ℕ) (rows : List Row) (p : LocationPath ℕ) → WellFormed s rows → Pairwise ◌<◌ (select_rows lent rows p)
unfolding select_rows
select-rows-rises s lent rows p w =
    select-rises (nodes_of lent rows) p (rw (nodes-numbered lent rows) (all-rise rows (λ i q r a b. (w.later_row i q r a b).rises)))

-- "On an empty table nothing is selected."
from_nothing : (ps : List (WrittenStep ℕ (Condition ℕ))) → path_from holds_at [] ps [] ≡ []
from_nothing [] = refl
from_nothing (p ∷ ps) = from_nothing ps

pub select-nothing : (lent : List ℕ) (p : LocationPath ℕ) → select_rows lent [] p ≡ []
unfolding select_rows select selected nodes_of
select-nothing lent p = ap (map node_number) (by p.start)
  where
    by : (q : Start) → path_from holds_at [] p.steps (start_nodes q []) ≡ []
    by root_element = from_nothing p.steps
