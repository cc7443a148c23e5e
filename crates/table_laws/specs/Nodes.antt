-- The tests on nodes mean what they say: `same` equality, `is_parent` an edge, `is_above` the edges' closure.
use Rattle.std.specs.Prelude.{◌&&◌, ◌≡◌, T, eqb}
use Rattle.std.proofs.Common.{⊎_elim, sym, subst, eqb→eq}
use Rattle.std.proofs.Math.Dec.{eqb_refl}
use Rattle.schema_laws.specs.Names.{same-equal, same-name}
use Rattle.schema_spec.specs.Names.{same_name}
use Rattle.table_spec.specs.Nodes.{Node, top, under, same, Edge, edge, Above, parent, higher, is_parent, is_above}
use Rattle.text_laws.specs.Lists.{bytes-equal, bytes_same}
use Rattle.text_laws.specs.Tests.{or_left, or_right, or_cases, and_intro, and_cases}
use Rattle.text_spec.specs.Lists.{same_bytes}

pub nodes-equal : (x y : Node) → T (same x y) → x ≡ y
nodes-equal (top k n) (top l m) t =
    let c = and_cases (eqb k l) (same_name n m) t in
    let e : k ≡ l = eqb→eq k l c.0 in
    let f : n ≡ m = same-equal n m c.1 in
    cc
nodes-equal (top k n) (under l m v q) t = absurd t
nodes-equal (under k n w p) (top l m) t = absurd t
nodes-equal (under k n w p) (under l m v q) t =
    let c = and_cases (eqb k l) (same_name n m && (same_bytes w v && same p q)) t in
    let d = and_cases (same_name n m) (same_bytes w v && same p q) c.1 in
    let u = and_cases (same_bytes w v) (same p q) d.1 in
    let e : k ≡ l = eqb→eq k l c.0 in
    let f : n ≡ m = same-equal n m d.0 in
    let g : w ≡ v = bytes-equal w v u.0 in
    let h : p ≡ q = nodes-equal p q u.1 in
    cc

pub nodes-same : (x : Node) → T (same x x)
nodes-same (top k n) = and_intro (eqb k k) (same_name n n) (eqb_refl k) (same-name n)
nodes-same (under k n w p) =
    and_intro (eqb k k) (same_name n n && (same_bytes w w && same p p)) (eqb_refl k)
    (and_intro (same_name n n) (same_bytes w w && same p p) (same-name n)
    (and_intro (same_bytes w w) (same p p) (bytes_same w) (nodes-same p)))

pub equal-same : {x y : Node} → x ≡ y → T (same x y)
equal-same {x} e = subst (λ (z : Node). T (same x z)) e (nodes-same x)

pub parent-edge : (x y : Node) → T (is_parent x y) → Edge x y
parent-edge x (top k n) t = absurd t
parent-edge x (under k n w p) t = subst (λ (z : Node). Edge z (under k n w p)) (sym (nodes-equal x p t)) edge

pub edge-parent : {x y : Node} → Edge x y → T (is_parent x y)
edge-parent {x} edge = nodes-same x

pub test-above : (x y : Node) → T (is_above x y) → Above x y
test-above x (top k n) t = absurd t
test-above x (under k n w p) t =
    ⊎_elim (λ h. parent (parent-edge x (under k n w p) h)) (λ h. higher (test-above x p h) edge) (or_cases (same x p) (is_above x p) t)

parent_above : (x y : Node) → T (is_parent x y) → T (is_above x y)
parent_above x (top k n) t = absurd t
parent_above x (under k n w p) t = or_left (same x p) (is_above x p) t

edge-above : (x : Node) {y z : Node} → T (is_above x y) → Edge y z → T (is_above x z)
edge-above x {y} t edge = or_right (same x y) (is_above x y) t

pub above-test : {x y : Node} → Above x y → T (is_above x y)
above-test (parent {x = x} {y = y} e) = parent_above x y (edge-parent e)
above-test (higher {x = x} a e) = edge-above x (above-test a) e
