-- Cutting a document to a set that has a path's needed names changes nothing of what the path selects: the theorem on nodes.
use Rattle.std.specs.Prelude.{Bool, ◌||◌, ◌⊎◌, ◌≡◌, ℕ, T}
use mathlib.Core.List.Memᴰ.{head as here}
use mathlib.Core.List.{List, map, Memᴰ as In}
use Rattle.std.proofs.Common.{⊎_elim, sym, subst, ◌∙◌}
use Rattle.std.proofs.Math.Path.{ap}
use Rattle.extract_spec.specs.Cut.{kept}
use Rattle.inference_spec.specs.Needed.{keeps_name, wants_names, from_root, at_start, needed_before_filter, needed_by_path, needed}
use Rattle.path_laws.specs.Selection.{selected-sound, selected-complete, selected-filters}
use Rattle.path_spec.specs.Paths.{unconditional, Start, root_element, LocationPath, expand}
use Rattle.path_spec.specs.Selection.{Holds, StartSet, Selected, selected, select}
use Rattle.projection_laws.specs.Agreement.{Alike, alike_turned, navigation-of, of-navigation, written-expands, navigation-complete, complete-needed, written-alike}
use Rattle.projection_laws.specs.Conditions.{condition-fair}
use Rattle.projection_laws.specs.Documents.{SubsetOf, Within, Valid, AllValid, Lawful, own-within, wider, within-kept, name_in}
use Rattle.projection_laws.specs.Soundness.{Typed}
use Rattle.schema_laws.specs.Closure.{Chain, one, chain-join, closure-chain, chain-closure}
use Rattle.schema_laws.specs.Names.{same-equal, same-name, in_within}
use Rattle.schema_spec.specs.Closure.{related, closure}
use Rattle.schema_spec.specs.Names.{Name, Names, same_name, within}
use Rattle.schema_spec.specs.Types.{Types}
use Rattle.table_spec.specs.Nodes.{Node, top, under, name_of, node_number}
use Rattle.text_laws.specs.Lists.{in-filter, filter-in, filter-filter, in-gather}
use Rattle.text_laws.specs.Tests.{or_left, or_right, or_cases}
use Rattle.text_spec.specs.Lists.{filter_by}

-- ---- The last filter: the names of a valid node and of its ancestors, all in a set, are reached from the root inside it.
module _ (s : Types) (law : Lawful s) (r : Names) where
  abbrev inside : Names
  inside = within s.names r

  abbrev reached : Name → Bool
  reached n = same_name s.root n || related (closure inside s.holds) s.root n

  member : (y : Node) → Valid s y → Within r y → In (name_of y) inside
  member y v w = in_within (name_in s law y v) (own-within r y w)

  node-reached : (y : Node) → Valid s y → Within r y → T (reached (name_of y))
  node-reached (top k n) v w =
      or_left (same_name s.root n) (related (closure inside s.holds) s.root n) (subst (λ (z : Name). T (same_name s.root z)) (sym v.1) (same-name s.root))
  node-reached (under k n x p) v w =
      let step : Chain inside s.holds (name_of p) n = one (member p v.1 w.1) (member (under k n x p) v w) v.0 in
      or_right (same_name s.root n) (related (closure inside s.holds) s.root n)
      (chain-closure inside s.holds
      (⊎_elim (λ e. subst (λ (z : Name). Chain inside s.holds z n) (sym (same-equal s.root (name_of p) e)) step)
      (λ h. chain-join (closure-chain inside s.holds s.root (name_of p) h) step)
      (or_cases (same_name s.root (name_of p)) (related (closure inside s.holds) s.root (name_of p)) (node-reached p v.1 w.1))))

  pub filtered-within : (y : Node) → Valid s y → Within r y → Within (from_root s r) y
  unfolding from_root
  filtered-within (top k n) v w = in-filter reached (member (top k n) v w) (node-reached (top k n) v w)
  filtered-within (under k n x p) v w =
      (in-filter reached (member (under k n x p) v w) (node-reached (under k n x p) v w), filtered-within p v.1 w.1)

-- ---- Where a path starts
-- a node there is valid in a document of valid nodes, has the type and the context at the start, lies within each set that has its name,
-- and is a start in another document that has it
start-valid : (s : Types) (a : Start) (d : List Node) → AllValid s d → (x : Node) → StartSet a d x → Valid s x
start-valid s root_element d ok x h = ok x h.0

start-typed : (s : Types) (a : Start) (d : List Node) (x : Node) → Valid s x → StartSet a d x → Typed (at_start s a) x
start-typed s root_element d (top k n) v h = (here v.1, here v.1)
start-typed s root_element d (under k n w p) v h = absurd h.1

start-within : (a : Start) (d : List Node) (r : Names) (x : Node) → StartSet a d x → In (name_of x) r → Within r x
start-within root_element d r (top k n) h i = i
start-within root_element d r (under k n w p) h i = absurd h.1

start-alike : (a : Start) (r : Names) (d e : List Node) → Alike r d e → (x : Node) → Within r x → StartSet a d x → StartSet a e x
start-alike root_element r d e al x w h = (al.forth x w h.0, h.1)

module _ (s : Types) (law : Lawful s) (p : LocationPath ℕ) where
  -- what a path selects in the one of two documents that are alike on its names, it selects in the other
  pub selected-alike : (d e : List Node) → AllValid s d → AllValid s e → Alike (needed_before_filter s p) d e → (m : Node) → Selected d p m → Selected e p m
  unfolding needed_before_filter
  selected-alike d e dv ev al m i =
      let laws = condition-fair s law in
      let keeps = keeps_name s in
      let wants = wants_names s in
      let r = needed_before_filter s p in
      let a = p.start in
      let start = at_start s a in
      let t = navigation-of s Holds d p.steps (StartSet a d) m i in
      let x = t.0 in
      let v : Valid s x = start-valid s a d dv x t.1 in
      let f : Typed start x = start-typed s a d x v t.1 in
      let w : Within r x =
      start-within a d r x t.1
      (complete-needed s law Holds keeps wants unconditional laws (expand unconditional p.steps) start (name_of x)
      (navigation-complete s law Holds keeps wants unconditional laws d dv start v f (written-expands s Holds unconditional laws.none-met d dv 1 v t.2))) in
      of-navigation s Holds e (StartSet a e) (start-alike a r d e al x w t.1)
      (written-alike s law Holds keeps wants unconditional laws r d e dv ev al 1 start v f w (λ n j. j) t.2).0

  module _ (doc : List Node) (ok : AllValid s doc) (a : Names) (enough : SubsetOf (needed_by_path s p) a) where
    abbrev cut : List Node
    cut = filter_by (kept a) doc

    cut-valid : AllValid s cut
    cut-valid y i = ok y (filter-in (kept a) doc i).0

    cut-alike : Alike (needed_before_filter s p) doc cut
    unfolding needed_by_path
    cut-alike =
        record {
          forth = λ y w i. in-filter (kept a) i (within-kept a y (wider (needed_by_path s p) a enough y (filtered-within s law (needed_before_filter s p) y (ok y i) w)));
          back = λ y w i. (filter-in (kept a) doc i).0;
        }

    -- THE THEOREM on nodes: the same nodes, in the same order
    pub selected-cut : selected doc p ≡ selected cut p
    selected-cut =
        let f = selected-filters doc p in
        let g = selected-filters cut p in
        f.1
        ∙ (filter-filter f.0 g.0 (kept a) doc
        (λ y i t.
        let j = selected-alike doc cut ok cut-valid cut-alike y (selected-sound doc p y (subst (λ (l : List Node). In y l) (sym f.1) (in-filter f.0 i t))) in
        let k = filter-in g.0 cut (subst (λ (l : List Node). In y l) g.1 (selected-complete cut p y j)) in
        ((filter-in (kept a) doc k.0).1, k.1))
        (λ y i u t.
        let j = selected-alike cut doc cut-valid ok (alike_turned cut-alike) y (selected-sound cut p y (subst (λ (l : List Node). In y l) (sym g.1) (in-filter g.0 (in-filter (kept a) i u) t))) in
        (filter-in f.0 doc (subst (λ (l : List Node). In y l) f.1 (selected-complete doc p y j))).1)
        ∙ sym g.1)

    pub select-cut : select doc p ≡ select cut p
    unfolding select
    select-cut = ap (map node_number) selected-cut

-- a bundle's needed names have those of each of its paths
pub path-needed : (s : Types) {p : LocationPath ℕ} (ps : List (LocationPath ℕ)) → In p ps → SubsetOf (needed_by_path s p) (needed s ps)
unfolding needed needed_by_path from_root
path-needed s ps i n j =
    in_within (filter-in _ s.names (filter-in _ _ j).0).0 (in-gather (needed_by_path s) i j)
