-- Nodes, the edges between them and their closure (source document 000, 2.1 and 3.1), and the nodes of a table.
use Rattle.std.specs.Prelude.{Bool, true, false, ◌&&◌, ◌||◌, List, [], ◌∷◌, ◌++◌, ℕ, suc, eqb}
use Rattle.std.proofs.Math.Option.{Option, none, some}
use Rattle.std.proofs.Math.ListN.{get_elem?}
use Rattle.schema_spec.specs.Names.{Name, element, text, same_name}
use Rattle.table_spec.specs.Rows.{Row, characters_of}
use Rattle.text_spec.specs.Lists.{same_bytes}

-- A node: its number, its name and, but for the root, the characters of its text and its parent. So a node carries its ancestors, and is the same node
-- in a table and in what is cut from it. The text of an element is empty.
pub data Node : Type 0 where
  top : ℕ → Name → Node
  under : ℕ → Name → List ℕ → Node → Node

abbrev pub node_number : Node → ℕ
node_number (top k n) = k
node_number (under k n w p) = k

abbrev pub name_of : Node → Name
name_of (top k n) = n
name_of (under k n w p) = n

abbrev pub is_top : Node → Bool
is_top (top k n) = true
is_top (under k n w p) = false

abbrev pub same : Node → Node → Bool
same (top k n) (top l m) = eqb k l && same_name n m
same (top k n) (under l m v q) = false
same (under k n w p) (top l m) = false
same (under k n w p) (under l m v q) = eqb k l && (same_name n m && (same_bytes w v && same p q))

-- 𝓔(t): the parent of a node, and the node
pub data Edge : Node → Node → Type 0 where
  edge : {k : ℕ} {n : Name} {w : List ℕ} {p : Node} → Edge p (under k n w p)

-- 𝓔(t)⁺: an ancestor of a node, and the node
pub data Above : Node → Node → Type 0 where
  parent : {x y : Node} → Edge x y → Above x y
  higher : {x y z : Node} → Above x y → Edge y z → Above x z

-- the same, computing
abbrev pub is_parent : Node → Node → Bool
is_parent x (top k n) = false
is_parent x (under k n w p) = same x p

abbrev pub is_above : Node → Node → Bool
is_above x (top k n) = false
is_above x (under k n w p) = same x p || is_above x p

-- a test on the names of a node and of all its ancestors
abbrev pub all_names : (Name → Bool) → Node → Bool
all_names f (top k n) = f n
all_names f (under k n w p) = f n && all_names f p

-- depth counts elements only; the root has depth 1
abbrev pub deeper : Name → ℕ → ℕ
deeper (element e) d = suc d
deeper (text e) d = d

abbrev pub depth_of : Node → ℕ
depth_of (top k n) = 1
depth_of (under k n w p) = deeper n (depth_of p)

-- the node of a row, given the nodes of the rows before it; a row whose parent is not among them is the root
abbrev pub attach_to : ℕ → Name → List ℕ → Option Node → Node
attach_to k n w none = top k n
attach_to k n w (some p) = under k n w p

abbrev pub node_at : List ℕ → List Node → Row → Node
node_at lent before r = attach_to r.number r.name (characters_of lent r) (get_elem? before r.parent)

abbrev pub nodes_from : List ℕ → List Node → List Row → List Node
nodes_from lent before [] = []
nodes_from lent before (r ∷ rs) =
    let y = node_at lent before r in
    y ∷ nodes_from lent (before ++ (y ∷ [])) rs

-- the nodes of a table whose text is lent beside it
unfoldable pub nodes_of : List ℕ → List Row → List Node
nodes_of lent rows = nodes_from lent [] rows
