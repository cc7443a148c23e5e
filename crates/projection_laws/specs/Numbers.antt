-- Numbers of the nodes of a well-formed table: they rise, so a node is known by its number.
use mathlib.Core.List.Memᴰ.{head as here}
use mathlib.Core.List.Memᴰ.{tail as there}
use mathlib.Core.List.{List, [], ◌∷◌, ◌++◌, Memᴰ as In}
use Rattle.std.specs.Prelude.{◌≡◌, refl, ℕ, suc, ◌<◌, T, length}
use Rattle.std.proofs.Common.{sym, ap, ◌∙◌, arith}
use Rattle.std.proofs.Math.ListN.{get_elem?}
use Rattle.schema_spec.specs.Types.{Types}
use Rattle.table_laws.specs.Fits.{attached-number, row_fits_lem, rooted}
use Rattle.table_spec.specs.Nodes.{Node, top, node_number, node_at, nodes_from, nodes_of}
use Rattle.table_spec.specs.Rows.{Row, characters_of}
use Rattle.table_spec.specs.Tables.{row_fits, later_rows, well_formed}
use Rattle.text_laws.specs.Tests.{and_cases}

-- numbers above k, each above those before it
pub data Rising : ℕ → List Node → Type 0 where
  no-nodes : {k : ℕ} → Rising k []
  next-node : {k : ℕ} {y : Node} {ys : List Node} → k < node_number y → Rising (node_number y) ys → Rising k (y ∷ ys)

rising-above : {k : ℕ} {ys : List Node} {z : Node} → Rising k ys → In z ys → k < node_number z
rising-above (next-node {y = y} h r) (here e) =
    let n = ap node_number e in
    omega arith
rising-above (next-node {y = y} h r) (there i) =
    let g = rising-above r i in
    omega arith
rising-above no-nodes i = elim i [ ]

pub rising-known : {k : ℕ} {ys : List Node} {y z : Node} → Rising k ys → In y ys → In z ys → node_number y ≡ node_number z → y ≡ z
rising-known (next-node h r) (here e) (here f) q = e ∙ sym f
rising-known (next-node h r) (here e) (there j) q =
    let g = rising-above r j in
    let n = ap node_number e in
    absurd (omega arith)
rising-known (next-node h r) (there i) (here f) q =
    let g = rising-above r i in
    let n = ap node_number f in
    absurd (omega arith)
rising-known (next-node h r) (there i) (there j) q = rising-known r i j q
rising-known no-nodes i j q = elim i [ ]

row_number : (lent : List ℕ) (before : List Node) (r : Row) → node_number (node_at lent before r) ≡ r.number
row_number lent before r = attached-number r.number r.name (characters_of lent r) (get_elem? before r.parent)

-- the nodes that are tested have no texts, and the same numbers
later-rising : (s : Types) (lent : List ℕ) (tested before : List Node) (previous : Node) (k : ℕ) (rs : List Row) → node_number previous ≡ k
    → T (later_rows s tested previous rs) → Rising k (nodes_from lent before rs)
later-rising s lent tested before previous k [] e t = no-nodes
later-rising s lent tested before previous k (r ∷ rs) e t =
    let z = node_at [] tested r in
    let y = node_at lent before r in
    let c = and_cases (row_fits s tested previous r z) (later_rows s (tested ++ (z ∷ [])) z rs) t in
    let h = (row_fits_lem s tested previous r z c.0).rises in
    let n = row_number lent before r in
    next-node {k = k} {y = y} (omega (arith, n, h, e)) (later-rising s lent (tested ++ (z ∷ [])) (before ++ (y ∷ [])) z (node_number y) rs (row_number [] tested r ∙ sym n) c.1)

pub node-known : (s : Types) (lent : List ℕ) (rows : List Row) → T (well_formed s rows) → (y z : Node) → In y (nodes_of lent rows) → In z (nodes_of lent rows)
    → node_number y ≡ node_number z → y ≡ z
unfolding nodes_of
node-known s lent [] t y z i j q = elim i [ ]
node-known s lent (r ∷ rs) t y z i j q = pick i j
  where
    first : Node
    first = top r.number r.name

    rest : Rising r.number (nodes_from lent (first ∷ []) rs)
    rest = later-rising s lent (first ∷ []) (first ∷ []) first r.number rs refl (rooted s r rs t).later

    pick : In y (first ∷ nodes_from lent (first ∷ []) rs) → In z (first ∷ nodes_from lent (first ∷ []) rs) → y ≡ z
    pick (here e) (here f) = e ∙ sym f
    pick (here e) (there v) =
        let g = rising-above rest v in
        let n = ap node_number e in
        absurd (omega arith)
    pick (there u) (here f) =
        let g = rising-above rest u in
        let n = ap node_number f in
        absurd (omega arith)
    pick (there u) (there v) = rising-known rest u v q

nodes-from-count : (lent : List ℕ) (before : List Node) (rs : List Row) → length (nodes_from lent before rs) ≡ length rs
nodes-from-count lent before [] = refl
nodes-from-count lent before (r ∷ rs) = ap suc (nodes-from-count lent (before ++ (node_at lent before r ∷ [])) rs)

-- "One row per node"
pub nodes-count : (lent : List ℕ) (rows : List Row) → length (nodes_of lent rows) ≡ length rows
unfolding nodes_of
nodes-count lent rows = nodes-from-count lent [] rows
