-- The axes between rows are the axes between their nodes, and so is document order.
use Rattle.std.proofs.Math.Bool.{Bool, not, or-false}
use Rattle.std.specs.Prelude.{false, ◌&&◌, ◌||◌, List, ◌≡◌, refl, ℕ, ◌<◌, T, length, get_or}
use Rattle.std.proofs.Math.Logic.{⊎_elim}
use Rattle.std.proofs.Common.{sym, subst, ◌∙◌, eq-or-lt_of_le, arith, eq-eqb, ne_eqb, eqb→eq, ltb→lt, lt→ltb}
use Rattle.std.proofs.Math.Path.{ap}
use Rattle.std.proofs.Math.Dec.{eqb, ltb, eqb_refl}
use Rattle.std.proofs.Math.ListN.{get_elem?}
use Rattle.cells.specs.row_sets.Ancestors.{parent_of, ancestors_of, is_in, root-parent, later-parent, root-ancestors, later-ancestors, by-parents}
use Rattle.path_laws.specs.Inverses.{inverse-written}
use Rattle.path_spec.specs.Paths.{Axis, self, child, descendant, descendant_or_self, parent, ancestor, ancestor_or_self, WrittenAxis, along, following, following_sibling, preceding, preceding_sibling}
use Rattle.path_spec.specs.Selection.{Follows, on_axis, are_siblings, follows, on_written}
use Rattle.selection_laws.specs.marks.Order.{row_follows, row_on_written, row-above}
use Rattle.selection_laws.specs.marks.Parents.{row_on_axis}
use Rattle.selection_laws.specs.marks.Siblings.{is_later_sibling}
use Rattle.table_laws.specs.Nodes.{nodes-equal, nodes-same, above-test}
use Rattle.table_laws.specs.Parents.{NodeAt, ChildOf, child-of, Placed, node-once}
use Rattle.table_laws.specs.Places.{at_bound}
use Rattle.table_spec.specs.Nodes.{Node, top, under, node_number, is_top, same, Above, is_parent, is_above}
use Rattle.text_laws.specs.Searches.{below-or-past}
use Rattle.text_laws.specs.Tests.{same_test}

top-parent : (x y : Node) → T (is_top y) → is_parent x y ≡ false
top-parent x (top k n) t = refl
top-parent x (under k n w p) t = absurd t

top_above : (x y : Node) → T (is_top y) → is_above x y ≡ false
top_above x (top k n) t = refl
top_above x (under k n w p) t = absurd t

top-siblings : (x y : Node) → T (is_top x) → are_siblings x y ≡ false
top-siblings (top k n) y t = refl
top-siblings (under k n w p) y t = absurd t

module _ (ps : List ℕ) (doc : List Node) (tree : Placed ps doc) (q : ℕ) (x : Node) (at-q : NodeAt doc q x) where
  pub same_rows : (r : ℕ) (y : Node) → NodeAt doc r y → same x y ≡ eqb q r
  same_rows r y at-r =
      same_test (same x y) (eqb q r) (λ t. subst (λ (k : ℕ). T (eqb q k)) (node-once ps doc tree q r x at-q (subst (λ (z : Node). NodeAt doc r z) (sym (nodes-equal x y t)) at-r)) (eqb_refl q))
      (λ t.
      let e : q ≡ r = eqb→eq q r t in
      let h : x ≡ y = cc in
      subst (λ (z : Node). T (same x z)) h (nodes-same x))

  same-rows-swapped : (r : ℕ) (y : Node) → NodeAt doc r y → same x y ≡ eqb r q
  same-rows-swapped r y at-r =
      same_rows r y at-r
      ∙ same_test (eqb q r) (eqb r q) (λ t. subst (λ (k : ℕ). T (eqb k q)) (eqb→eq q r t) (eqb_refl q)) (λ t. subst (λ (k : ℕ). T (eqb k r)) (eqb→eq r q t) (eqb_refl r))

  pub parent-rows : (r : ℕ) (y : Node) → NodeAt doc r y → is_parent x y ≡ is_in q (parent_of ps r)
  parent-rows r y at-r = ⊎_elim root later (eq-or-lt_of_le {n = 0} (omega arith))
    where
      root : 0 ≡ r → is_parent x y ≡ is_in q (parent_of ps r)
      root e = top-parent x y (tree.root y (ap (get_elem? doc) e ∙ at-r)) ∙ sym (ap (is_in q) (ap (parent_of ps) (sym e) ∙ root-parent ps))

      later : 0 < r → is_parent x y ≡ is_in q (parent_of ps r)
      later p = by-child y (tree.later r y p at-r) ∙ sym (ap (is_in q) (later-parent ps r p) ∙ or-false (eqb q (get_or ps r 0)))
        where
          by-child : (z : Node) → ChildOf doc (get_or ps r 0) z → is_parent x z ≡ eqb q (get_or ps r 0)
          by-child z (child-of {x = u} a) = same_rows (get_or ps r 0) u a

  pub above_rows : (r : ℕ) → r < length ps → (y : Node) → NodeAt doc r y → is_above x y ≡ is_in q (ancestors_of ps r)
  above_rows = by-parents ps tree.before (λ r. (y : Node) → NodeAt doc r y → is_above x y ≡ is_in q (ancestors_of ps r)) root later
    where
      root : (y : Node) → NodeAt doc 0 y → is_above x y ≡ is_in q (ancestors_of ps 0)
      root y a = top_above x y (tree.root y a) ∙ sym (ap (is_in q) (root-ancestors ps))

      later : (r : ℕ) → 0 < r → r < length ps → ((y : Node) → NodeAt doc (get_or ps r 0) y → is_above x y ≡ is_in q (ancestors_of ps (get_or ps r 0)))
          → (y : Node) → NodeAt doc r y → is_above x y ≡ is_in q (ancestors_of ps r)
      later r p l h y a = by-child y (tree.later r y p a) ∙ sym (ap (is_in q) (later-ancestors ps tree.before r p l))
        where
          by-child : (z : Node) → ChildOf doc (get_or ps r 0) z → is_above x z ≡ (eqb q (get_or ps r 0) || is_in q (ancestors_of ps (get_or ps r 0)))
          by-child z (child-of {x = u} b) =
              ap (λ (t : Bool). t || is_above x u) (same_rows (get_or ps r 0) u b) ∙ ap (λ (t : Bool). eqb q (get_or ps r 0) || t) (h u b)

-- each axis is the same between rows and between their nodes
pub axis-rows : (ps : List ℕ) (doc : List Node) → Placed ps doc → (a : Axis) (q r : ℕ) (x y : Node) → NodeAt doc q x → NodeAt doc r y → on_axis a x y ≡ row_on_axis a ps q r
unfolding row_on_axis
axis-rows ps doc tree a q r x y at-q at-r = by-axis a
  where
    row-bound : (k : ℕ) (z : Node) → NodeAt doc k z → k < length ps
    row-bound k z h = omega (arith, at_bound doc k z h, tree.size)

    by-axis : (b : Axis) → on_axis b x y ≡ row_on_axis b ps q r
    by-axis self = same_rows ps doc tree q x at-q r y at-r ∙ sym (or-false (eqb q r))
    by-axis child = parent-rows ps doc tree q x at-q r y at-r
    by-axis descendant = above_rows ps doc tree q x at-q r (row-bound r y at-r) y at-r
    by-axis descendant_or_self =
        ap (λ (t : Bool). t || is_above x y) (same_rows ps doc tree q x at-q r y at-r)
        ∙ ap (λ (t : Bool). eqb q r || t) (above_rows ps doc tree q x at-q r (row-bound r y at-r) y at-r)
    by-axis parent = parent-rows ps doc tree r y at-r q x at-q
    by-axis ancestor = above_rows ps doc tree r y at-r q (row-bound q x at-q) x at-q
    by-axis ancestor_or_self =
        ap (λ (t : Bool). t || is_above y x) (same-rows-swapped ps doc tree q x at-q r y at-r)
        ∙ ap (λ (t : Bool). eqb r q || t) (above_rows ps doc tree r y at-r q (row-bound q x at-q) x at-q)

-- ---- document order
module _ (ps : List ℕ) (doc : List Node) (tree : Placed ps doc) (q r : ℕ) (x y : Node) (at-q : NodeAt doc q x) (at-r : NodeAt doc r y) where
  -- numbers are in the order of their rows
  row_before : node_number x < node_number y → q < r
  row_before l = ⊎_elim (λ b. b) (λ b. absurd (⊎_elim equal after (eq-or-lt_of_le b))) (below-or-past q r)
    where
      equal : r ≡ q → ⊥
      equal e =
          let h : x ≡ y = cc in
          omega (arith, l, ap node_number h)

      after : r < q → ⊥
      after b = omega (arith, l, tree.rises r q y x at-r at-q b)

  number-rows : ltb (node_number x) (node_number y) ≡ ltb q r
  number-rows =
      same_test (ltb (node_number x) (node_number y)) (ltb q r) (λ t. lt→ltb q r (row_before (ltb→lt (node_number x) (node_number y) t)))
      (λ t. lt→ltb (node_number x) (node_number y) (tree.rises q r x y at-q at-r (ltb→lt q r t)))

  row-bounds : (q < length ps) × (r < length ps)
  row-bounds = (omega (arith, at_bound doc q x at-q, tree.size), omega (arith, at_bound doc r y at-r, tree.size))

  follow-rows : follows x y ≡ row_follows ps q r
  unfolding row_follows
  follow-rows =
      ap (λ (b : Bool). b && (not (is_above x y) && not (is_above y x))) number-rows
      ∙ ap (λ (b : Bool). ltb q r && (not b && not (is_above y x))) (above_rows ps doc tree q x at-q r row-bounds.1 y at-r)
      ∙ ap (λ (b : Bool). ltb q r && (not (is_in q (ancestors_of ps r)) && not b)) (above_rows ps doc tree r y at-r q row-bounds.0 x at-q)

  sibling-rows : (are_siblings x y && ltb (node_number x) (node_number y)) ≡ is_later_sibling ps q r
  unfolding is_later_sibling
  sibling-rows = ap (λ (b : Bool). are_siblings x y && b) number-rows ∙ ⊎_elim root later (eq-or-lt_of_le {n = 0} (omega arith))
    where
      aside : Bool
      aside = eqb (get_or ps q 0) (get_or ps r 0) && ltb q r

      root : 0 ≡ q → (are_siblings x y && ltb q r) ≡ (not (eqb q 0) && (not (eqb r 0) && aside))
      root e = ap (λ (b : Bool). b && ltb q r) (top-siblings x y (tree.root x (ap (get_elem? doc) e ∙ at-q))) ∙ sym (ap (λ (b : Bool). not b && (not (eqb r 0) && aside)) (eq-eqb q 0 (sym e)))

      later : 0 < q → (are_siblings x y && ltb q r) ≡ (not (eqb q 0) && (not (eqb r 0) && aside))
      later p =
          by-child x (tree.later q x p at-q)
          ∙ ⊎_elim first second (eq-or-lt_of_le {n = 0} (omega arith))
          ∙ sym (ap (λ (b : Bool). not b && (not (eqb r 0) && aside)) (ne_eqb q 0 (λ e. omega arith)))
        where
          by-child : (z : Node) → ChildOf doc (get_or ps q 0) z → (are_siblings z y && ltb q r) ≡ (is_in (get_or ps q 0) (parent_of ps r) && ltb q r)
          by-child z (child-of {x = u} a) = ap (λ (b : Bool). b && ltb q r) (parent-rows ps doc tree (get_or ps q 0) u a r y at-r)

          first : 0 ≡ r → (is_in (get_or ps q 0) (parent_of ps r) && ltb q r) ≡ (not (eqb r 0) && aside)
          first e =
              ap (λ (k : List ℕ). is_in (get_or ps q 0) k && ltb q r) (ap (parent_of ps) (sym e) ∙ root-parent ps) ∙ sym (ap (λ (b : Bool). not b && aside) (eq-eqb r 0 (sym e)))

          second : 0 < r → (is_in (get_or ps q 0) (parent_of ps r) && ltb q r) ≡ (not (eqb r 0) && aside)
          second d =
              ap (λ (b : Bool). b && ltb q r) (ap (is_in (get_or ps q 0)) (later-parent ps r d) ∙ or-false (eqb (get_or ps q 0) (get_or ps r 0)))
              ∙ sym (ap (λ (b : Bool). not b && aside) (ne_eqb r 0 (λ e. omega arith)))

  -- of two nodes of a table the later one follows the other unless it is below it: no node is above one of a lower number
  pub later-follows : node_number x < node_number y → (Above x y → ⊥) → Follows x y
  later-follows l apart =
      record {
        after = l;
        no-descendant = apart;
        no-ancestor = λ a.
            let b : q < r = row_before l in
            let t : T (is_in r (ancestors_of ps q)) = subst T (above_rows ps doc tree r y at-r q row-bounds.0 x at-q) (above-test a) in
            omega (arith, b, row-above ps tree.before r q row-bounds.0 t);
      }

-- each written axis is the same between rows and between their nodes
pub written-axis-rows : (ps : List ℕ) (doc : List Node) → Placed ps doc → (a : WrittenAxis) (q r : ℕ) (x y : Node) → NodeAt doc q x → NodeAt doc r y
    → on_written a x y ≡ row_on_written a ps q r
written-axis-rows ps doc tree (along a) q r x y at-q at-r = axis-rows ps doc tree a q r x y at-q at-r
written-axis-rows ps doc tree following q r x y at-q at-r = follow-rows ps doc tree q r x y at-q at-r
written-axis-rows ps doc tree following_sibling q r x y at-q at-r = sibling-rows ps doc tree q r x y at-q at-r
written-axis-rows ps doc tree preceding q r x y at-q at-r = follow-rows ps doc tree r q y x at-r at-q
written-axis-rows ps doc tree preceding_sibling q r x y at-q at-r = inverse-written following_sibling x y ∙ sibling-rows ps doc tree r q y x at-r at-q
