-- What a path selects (source document 000, 3.1 to 3.3): as sets of nodes over the edges and their closure, and computing.
use Rattle.std.specs.Prelude.{Bool, true, false, not, ◌&&◌, ◌||◌, ◌≡◌, ℕ, ◌<◌, T, eqb, ltb}
use mathlib.Core.List.{List, [], ◌∷◌, map, Memᴰ}
use Rattle.path_spec.specs.Paths.{Axis, self, child, descendant, descendant_or_self, parent, ancestor, ancestor_or_self, WrittenAxis, along, following, following_sibling, preceding, preceding_sibling, NodeTest, named, any_node, any_text, WrittenStep, PlainStep, Condition, unconditional, alternatives, Start, root_element, LocationPath}
use Rattle.schema_spec.specs.Names.{Name, element, text}
use Rattle.table_spec.specs.Nodes.{Node, top, under, node_number, name_of, is_top, same, Edge, Above, is_parent, is_above, nodes_of}
use Rattle.table_spec.specs.Rows.{Row}
use Rattle.text_spec.specs.Lists.{any_of, filter_by, is_empty}

-- ---- As 000 defines it. A set of nodes is a property of them.
abbrev pub NodeSet : Type 1
NodeSet = Node → Type 0

-- definition 3.1, filtering
pub data Passes : NodeTest ℕ → Name → Type 0 where
  passes-name : {e : ℕ} → Passes (named e) (element e)
  passes-node : {n : Name} → Passes any_node n
  passes-text : {e : ℕ} → Passes any_text (text e)

-- definition 3.2, axes: y lies on the axis from x; the two -or-self axes add x itself
pub data OnAxis : Axis → Node → Node → Type 0 where
  on-self : {x : Node} → OnAxis self x x
  on-child : {x y : Node} → Edge x y → OnAxis child x y
  on-descendant : {x y : Node} → Above x y → OnAxis descendant x y
  here-or-below : {x : Node} → OnAxis descendant_or_self x x
  below-or-here : {x y : Node} → Above x y → OnAxis descendant_or_self x y
  on-parent : {x y : Node} → Edge y x → OnAxis parent x y
  on-ancestor : {x y : Node} → Above y x → OnAxis ancestor x y
  here-or-above : {x : Node} → OnAxis ancestor_or_self x x
  above-or-here : {x y : Node} → Above y x → OnAxis ancestor_or_self x y

-- nodes that have one parent, elements and texts alike
pub data Siblings : Node → Node → Type 0 where
  siblings : {p x y : Node} → Edge p x → Edge p y → Siblings x y

-- y comes after x "in document order", in which numbers rise, "excluding any descendants"; nor is y an ancestor of x
pub record Follows (x y : Node) : Type 0 where
  pub after : node_number x < node_number y
  pub no-descendant : Above x y → ⊥
  pub no-ancestor : Above y x → ⊥

-- XPath 1.0, 2.2. following: "all nodes in the same document as the context node that are after the context node in document order, excluding any
-- descendants"; following-sibling: "all the following siblings of the context node"; preceding: all nodes "that are before the context node in
-- document order, excluding any ancestors"; preceding-sibling: "all the preceding siblings of the context node"
pub data OnWritten : WrittenAxis → Node → Node → Type 0 where
  on-along : {a : Axis} {x y : Node} → OnAxis a x y → OnWritten (along a) x y
  on-following : {x y : Node} → Follows x y → OnWritten following x y
  on-following-sibling : {x y : Node} → Siblings x y → node_number x < node_number y → OnWritten following_sibling x y
  on-preceding : {x y : Node} → Follows y x → OnWritten preceding x y
  on-preceding-sibling : {x y : Node} → Siblings x y → node_number y < node_number x → OnWritten preceding_sibling x y

-- definition 3.3, with conditions (3.2): ⟦Axis::Test[C]⟧(S), and ⟦P/Q⟧(S) = ⟦Q⟧(⟦P⟧(S)), in a document
module _ {C : Type 0} (doc : List Node) (Meets : C → NodeSet) where
  pub record StepSet (p : WrittenStep ℕ C) (S : NodeSet) (y : Node) : Type 0 where
    pub from : Node
    pub member : S from
    pub axis : OnWritten p.axis from y
    pub present : Memᴰ y doc
    pub test : Passes p.test (name_of y)
    pub condition : Meets p.condition y

  abbrev pub PathSet : List (WrittenStep ℕ C) → NodeSet → NodeSet
  PathSet [] S = S
  PathSet (p ∷ ps) S = PathSet ps (StepSet p S)

-- steps without brackets
abbrev pub Always : Unit {0} → NodeSet
Always c y = Unit {0}

abbrev pub Only : Node → NodeSet
Only x y = x ≡ y

-- Check[C](y): "a condition holds when some alternative selects a node"
pub data Holds (doc : List Node) : Condition ℕ → Node → Type 0 where
  no-condition : {y : Node} → Holds doc unconditional y
  alternative : {qs : List (List (PlainStep ℕ))} {y : Node} (q : List (PlainStep ℕ)) (z : Node) → Memᴰ q qs → PathSet doc Always q (Only y) z
      → Holds doc (alternatives qs) y

-- "A path starts at the root element"
abbrev pub StartSet : Start → List Node → NodeSet
StartSet root_element doc x = Memᴰ x doc × T (is_top x)

abbrev pub Selected : List Node → LocationPath ℕ → NodeSet
Selected doc p = PathSet doc (Holds doc) p.steps (StartSet p.start doc)

-- ---- The computing form, over the nodes of a document in document order.
abbrev pub passes : NodeTest ℕ → Name → Bool
passes (named e) (element f) = eqb e f
passes (named e) (text f) = false
passes any_node n = true
passes any_text (element f) = false
passes any_text (text f) = true

abbrev pub on_axis : Axis → Node → Node → Bool
on_axis self x y = same x y
on_axis child x y = is_parent x y
on_axis descendant x y = is_above x y
on_axis descendant_or_self x y = same x y || is_above x y
on_axis parent x y = is_parent y x
on_axis ancestor x y = is_above y x
on_axis ancestor_or_self x y = same x y || is_above y x

abbrev pub are_siblings : Node → Node → Bool
are_siblings (top k n) y = false
are_siblings (under k n w p) y = is_parent p y

abbrev pub follows : Node → Node → Bool
follows x y = ltb (node_number x) (node_number y) && (not (is_above x y) && not (is_above y x))

abbrev pub on_written : WrittenAxis → Node → Node → Bool
on_written (along a) x y = on_axis a x y
on_written following x y = follows x y
on_written following_sibling x y = are_siblings x y && ltb (node_number x) (node_number y)
on_written preceding x y = follows y x
on_written preceding_sibling x y = are_siblings x y && ltb (node_number y) (node_number x)

module _ {C : Type 0} (meets : List Node → C → Node → Bool) (doc : List Node) where
  -- the nodes that one step leads to from the nodes xs
  abbrev pub step_from : WrittenStep ℕ C → List Node → List Node
  step_from p xs =
      filter_by (λ y. any_of (λ x. on_written p.axis x y) xs && (passes p.test (name_of y) && meets doc p.condition y)) doc

  abbrev pub path_from : List (WrittenStep ℕ C) → List Node → List Node
  path_from [] xs = xs
  path_from (p ∷ ps) xs = path_from ps (step_from p xs)

abbrev pub always : List Node → Unit {0} → Node → Bool
always doc c y = true

abbrev pub holds_at : List Node → Condition ℕ → Node → Bool
holds_at doc unconditional y = true
holds_at doc (alternatives qs) y = any_of (λ q. not (is_empty (path_from always doc q (y ∷ [])))) qs

-- the nodes that a path starts from
abbrev pub start_nodes : Start → List Node → List Node
start_nodes root_element doc = filter_by is_top doc

unfoldable pub selected : List Node → LocationPath ℕ → List Node
selected doc p = path_from holds_at doc p.steps (start_nodes p.start doc)

-- "Selection is a set, given in document order"; "a node is known by its number"
unfoldable pub select : List Node → LocationPath ℕ → List ℕ
select doc p = map node_number (selected doc p)

-- on a table with the text lent beside it; "on an empty table nothing is selected"
unfoldable pub select_rows : List ℕ → List Row → LocationPath ℕ → List ℕ
select_rows lent rows p = select (nodes_of lent rows) p
