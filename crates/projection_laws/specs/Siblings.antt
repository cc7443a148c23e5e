-- Of two nodes of a valid document, neither of them at or above the other, some siblings lie at or above them: what makes following and preceding
-- steps by way of ancestor-or-self, a sibling axis and descendant-or-self (source document 000, 4.3).
use Rattle.std.specs.Prelude.{◌⊎◌, ◌≡◌, ℕ, T}
use Rattle.std.proofs.Common.{inl, inr, sym, subst, ◌∙◌}
use Rattle.path_spec.specs.Paths.{descendant_or_self, ancestor_or_self}
use Rattle.path_spec.specs.Selection.{OnAxis, here-or-below, below-or-here, here-or-above, above-or-here}
use Rattle.projection_laws.specs.Documents.{Valid, edge-valid}
use Rattle.schema_spec.specs.Names.{Name}
use Rattle.schema_spec.specs.Types.{Types}
use Rattle.table_laws.specs.Nodes.{test-above, above-test}
use Rattle.table_spec.specs.Nodes.{Node, top, under, Edge, edge, Above, parent, higher, is_above}
use Rattle.text_laws.specs.Tests.{decided}

-- siblings at or above x and at or above y
pub record SiblingsAbove (x y : Node) : Type 0 where
  pub shared : Node
  pub first : Node
  pub second : Node
  pub up : OnAxis ancestor_or_self x first
  pub first_edge : Edge shared first
  pub second-edge : Edge shared second
  pub down : OnAxis descendant_or_self second y

up-further : {x y z : Node} → Edge x y → OnAxis ancestor_or_self x z → OnAxis ancestor_or_self y z
up-further e here-or-above = above-or-here (parent e)
up-further e (above-or-here u) = above-or-here (higher u e)

down-further : {x y z : Node} → OnAxis descendant_or_self x y → Edge y z → OnAxis descendant_or_self x z
down-further here-or-below e = below-or-here (parent e)
down-further (below-or-here u) e = below-or-here (higher u e)

-- the child of an ancestor on the way down to a node
child-towards : {p x : Node} → Above p x → (a : Node) × Edge p a × OnAxis ancestor_or_self x a
child-towards {x = x} (parent e) = (x, e, here-or-above)
child-towards (higher u e) =
    let r = child-towards u in
    (r.0, r.1, up-further e r.2)

module _ (s : Types) where
  -- what is at or above a valid node is valid
  above-valid : {x y : Node} → Above x y → Valid s y → Valid s x
  above-valid (parent e) v = edge-valid s e v
  above-valid (higher u e) v = above-valid u (edge-valid s e v)

  pub up-valid : {x y : Node} → OnAxis ancestor_or_self x y → Valid s x → Valid s y
  up-valid here-or-above v = v
  up-valid (above-or-here u) v = above-valid u v

  pub down-valid : {x y : Node} → OnAxis descendant_or_self x y → Valid s y → Valid s x
  down-valid here-or-below v = v
  down-valid (below-or-here u) v = above-valid u v

  -- the root is every node, or above it
  root_over : (k : ℕ) (n : Name) (x : Node) → Valid s (top k n) → Valid s x → (top k n ≡ x) ⊎ Above (top k n) x
  root_over k n (top l m) v w =
      let e : k ≡ l = v.0 ∙ sym w.0 in
      let f : n ≡ m = v.1 ∙ sym w.1 in
      inl cc
  root_over k n (under l m u p) v w = inr (by (root_over k n p v w.1))
    where
      by : (top k n ≡ p) ⊎ Above (top k n) p → Above (top k n) (under l m u p)
      by (inl e) = subst (λ (z : Node). Above z (under l m u p)) (sym e) (parent edge)
      by (inr h) = higher h edge

  pub siblings-above : (x y : Node) → Valid s x → Valid s y → (x ≡ y → ⊥) → (Above x y → ⊥) → (Above y x → ⊥) → SiblingsAbove x y
  siblings-above x (top k n) v w d a b = by (root_over k n x w v)
    where
      by : (top k n ≡ x) ⊎ Above (top k n) x → SiblingsAbove x (top k n)
      by (inl e) = absurd (d (sym e))
      by (inr h) = absurd (b h)
  siblings-above x (under k n u p) v w d a b =
      by (decided (is_above p x))
      (siblings-above x p v w.1 (λ e. a (subst (λ (z : Node). Above z (under k n u p)) (sym e) (parent edge))) (λ h. a (higher h edge)))
    where
      by : T (is_above p x) ⊎ (T (is_above p x) → ⊥) → ((Above p x → ⊥) → SiblingsAbove x p) → SiblingsAbove x (under k n u p)
      by (inl t) later =
          let c = child-towards (test-above p x t) in
          record { shared = p; first = c.0; second = under k n u p; up = c.2; first_edge = c.1; second-edge = edge; down = here-or-below }
      by (inr f) later =
          let r = later (λ h. f (above-test h)) in
          record {
            shared = r.shared;
            first = r.first;
            second = r.second;
            up = r.up;
            first_edge = r.first_edge;
            second-edge = r.second-edge;
            down = down-further r.down edge;
          }
