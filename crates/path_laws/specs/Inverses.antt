-- Each axis has an inverse: a node lies on it from another exactly if the other lies on the inverse from the first.
use Rattle.std.specs.Prelude.{Bool, ◌&&◌, ◌||◌, ◌≡◌, refl, T, ltb}
use Rattle.std.proofs.Common.{ap, subst}
use Rattle.path_spec.specs.Paths.{Axis, self, child, descendant, descendant_or_self, parent, ancestor, ancestor_or_self, WrittenAxis, along, following, following_sibling, preceding, preceding_sibling}
use Rattle.path_spec.specs.Selection.{OnAxis, on-self, on-child, on-descendant, here-or-below, below-or-here, on-parent, on-ancestor, here-or-above, above-or-here, Siblings, siblings, on_axis, are_siblings, on_written}
use Rattle.path_laws.specs.Selection.{test-siblings, siblings-test}
use Rattle.table_laws.specs.Nodes.{nodes-equal, nodes-same}
use Rattle.table_spec.specs.Nodes.{Node, node_number, same, is_above}
use Rattle.text_laws.specs.Tests.{same_test}

abbrev pub inverse : Axis → Axis
inverse self = self
inverse child = parent
inverse descendant = ancestor
inverse descendant_or_self = ancestor_or_self
inverse parent = child
inverse ancestor = descendant
inverse ancestor_or_self = descendant_or_self

pub inverse-inverse : (a : Axis) → inverse (inverse a) ≡ a
inverse-inverse self = refl
inverse-inverse child = refl
inverse-inverse descendant = refl
inverse-inverse descendant_or_self = refl
inverse-inverse parent = refl
inverse-inverse ancestor = refl
inverse-inverse ancestor_or_self = refl

pub on-inverse : {a : Axis} {x y : Node} → OnAxis a x y → OnAxis (inverse a) y x
on-inverse on-self = on-self
on-inverse (on-child e) = on-parent e
on-inverse (on-descendant h) = on-ancestor h
on-inverse here-or-below = here-or-above
on-inverse (below-or-here h) = above-or-here h
on-inverse (on-parent e) = on-child e
on-inverse (on-ancestor h) = on-descendant h
on-inverse here-or-above = here-or-below
on-inverse (above-or-here h) = below-or-here h

-- the same of the tests
same-swapped : (x y : Node) → same x y ≡ same y x
same-swapped x y = same_test (same x y) (same y x) (turn x y) (turn y x)
  where
    turn : (u v : Node) → T (same u v) → T (same v u)
    turn u v t = subst (λ (z : Node). T (same z u)) (nodes-equal u v t) (nodes-same u)

pub inverse-axis : (a : Axis) (x y : Node) → on_axis (inverse a) x y ≡ on_axis a y x
inverse-axis self x y = same-swapped x y
inverse-axis child x y = refl
inverse-axis descendant x y = refl
inverse-axis descendant_or_self x y = ap (λ (b : Bool). b || is_above y x) (same-swapped x y)
inverse-axis parent x y = refl
inverse-axis ancestor x y = refl
inverse-axis ancestor_or_self x y = ap (λ (b : Bool). b || is_above x y) (same-swapped x y)

-- ---- written axes
abbrev pub inverse_written : WrittenAxis → WrittenAxis
inverse_written (along a) = along (inverse a)
inverse_written following = preceding
inverse_written following_sibling = preceding_sibling
inverse_written preceding = following
inverse_written preceding_sibling = following_sibling

siblings-turned : {x y : Node} → Siblings x y → Siblings y x
siblings-turned (siblings e f) = siblings f e

siblings-swapped : (x y : Node) → are_siblings x y ≡ are_siblings y x
siblings-swapped x y = same_test (are_siblings x y) (are_siblings y x) (turn x y) (turn y x)
  where
    turn : (u v : Node) → T (are_siblings u v) → T (are_siblings v u)
    turn u v t = siblings-test (siblings-turned (test-siblings u v t))

pub inverse-written : (a : WrittenAxis) (x y : Node) → on_written (inverse_written a) x y ≡ on_written a y x
inverse-written (along a) x y = inverse-axis a x y
inverse-written following x y = refl
inverse-written following_sibling x y = ap (λ (b : Bool). b && ltb (node_number y) (node_number x)) (siblings-swapped x y)
inverse-written preceding x y = refl
inverse-written preceding_sibling x y = ap (λ (b : Bool). b && ltb (node_number x) (node_number y)) (siblings-swapped x y)
