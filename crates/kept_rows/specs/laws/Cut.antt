-- On the columns of a well-formed table the code keeps the rows that `cut` keeps, and renumbers parents as `cut` does.
use Rattle.std.specs.Prelude.{Bool, true, false, ◌&&◌, ◌≡◌, T, length, get_or}
use Rattle.std.proofs.Math.Bool.{cond}
use mathlib.Core.List.{List, [], ◌∷◌, ◌++◌, map, append_assoc, Memᴰ as In}
use Rattle.std.proofs.Math.Option.{Option, some}
use Rattle.std.proofs.Math.Path.{refl, sym, ap, ap₂}
use Rattle.std.proofs.Common.{◌∙◌, arith}
use Prim.Native.Nat.{ℕ, zero, suc, ◌+◌, ◌<◌, ◌≤◌}
use Rattle.std.proofs.Math.ListN.{get_elem?, length-append}
use Rattle.std.proofs.lemmas.List.{length-map, take-append-le}
use Rattle.cells.specs.lent.Columns.{same-columns}
use Rattle.cells.specs.row_sets.Ancestors.{by-parents}
use Rattle.cells.specs.row_sets.Columns.{mark, picked, marks-by-rows}
use Rattle.extract_spec.specs.Cut.{kept, renumbered, cut_from, cut}
use Rattle.kept_rows.specs.Joined.{rank}
use Rattle.kept_rows.specs.Kept.{is_kept, kept_marks, kept-root, kept-later}
use Rattle.kept_rows.specs.cut_rows.Cells.{cells_before}
use Rattle.kept_rows.specs.cut_rows.Rows.{kept_columns}
use Rattle.kept_rows.specs.laws.Picked.{joined-picked, gather-map, tested, tested-rank}
use Rattle.schema_spec.specs.Names.{Name, Names, code_of, has}
use Rattle.schema_spec.specs.Types.{Types}
use Rattle.table_laws.specs.Fits.{rooted}
use Rattle.table_laws.specs.Parents.{NodeAt, ChildOf, child-of, Placed, nodes-placed, nodes-named}
use Rattle.table_laws.specs.Places.{none-some, at_bound, at_some, at_in}
use Rattle.table_spec.specs.Columns.{Columns, columns}
use Rattle.table_spec.specs.Nodes.{Node, top, under, name_of, is_top, node_at, nodes_from, nodes_of}
use Rattle.table_spec.specs.Rows.{Row, with_parent}
use Rattle.table_spec.specs.Tables.{well_formed}
use Rattle.text_spec.specs.Lists.{filter_by}

-- the columns of rows
abbrev pub columns_in : List Row → Columns
columns_in rows =
    columns (map (λ r. r.number) rows) (map (λ r. code_of r.name) rows) (map (λ r. r.parent) rows) (map (λ r. r.start) rows) (map (λ r. r.size) rows)
    (map (λ r. r.decoded) rows)

-- the codes of the rows' names that pass are those of the names in the set
abbrev pub PassesFor : (ℕ → Bool) → Names → List Row → Type 0
PassesFor f set rows = (r : Row) → In r rows → f (code_of r.name) ≡ has r.name set

-- ---- cutting as a choice of rows
unfoldable pub renumbered_by : List ℕ → Row → Row
renumbered_by m r = with_parent (rank m r.parent) r

module _ (set : Names) where
  cut-from : (before : List Node) (rs : List Row) → ((i : ℕ) → i < length rs → get_or (map (λ r. r.parent) rs) i 0 ≤ length before + i) → (m : List ℕ)
      → m ≡ tested (kept set) (before ++ nodes_from [] before rs)
      → cut_from set before rs ≡ map (renumbered_by m) (picked (tested (kept set) (nodes_from [] before rs)) rs)
  unfolding picked renumbered_by
  cut-from before [] h m e = refl
  cut-from before (r ∷ rs) h m e =
      let later : cut_from set (before ++ (y ∷ [])) rs ≡ map (renumbered_by m) chosen =
      cut-from (before ++ (y ∷ [])) rs
      (λ i l.
      let b = h (suc i) (omega arith) in
      omega (arith, length-append before (y ∷ []))) m (e ∙ ap (tested (kept set)) (sym (append_assoc before (y ∷ []) after))) in
      ap₂ (λ (q : Row) (c : List Row). cond (kept set y) (q ∷ c) c) same later ∙ pick (kept set y)
    where
      y : Node
      y = node_at [] before r

      after : List Node
      after = nodes_from [] (before ++ (y ∷ [])) rs

      chosen : List Row
      chosen = picked (tested (kept set) after) rs

      same : renumbered set before r ≡ renumbered_by m r
      same =
          ap (λ (k : ℕ). with_parent k r)
          (sym (ap (λ (l : List ℕ). rank l r.parent) e ∙ tested-rank (kept set) (before ++ (y ∷ after)) r.parent
          ∙ ap (λ (l : List Node). length (filter_by (kept set) l)) (take-append-le r.parent before (y ∷ after) (omega (arith, h 0 (omega arith))))))

      pick : (t : Bool) → cond t (renumbered_by m r ∷ map (renumbered_by m) chosen) (map (renumbered_by m) chosen) ≡ map (renumbered_by m) (picked (mark t ∷ tested (kept set) after) (r ∷ rs))
      pick true = refl
      pick false = refl

-- ---- a well-formed table
pub get_d_map : {A : Type 0} (h : A → ℕ) (xs : List A) (i : ℕ) (x : A) → get_elem? xs i ≡ some x → get_or (map h xs) i 0 ≡ h x
get_d_map h [] i x e = none-some e
get_d_map {A} h (a ∷ xs) zero x e = let z : a ≡ x = cc in ap h z
get_d_map h (a ∷ xs) (suc i) x e = get_d_map h xs i x e

pub at-mapped : {A B : Type 0} (h : A → B) (xs : List A) (i : ℕ) (x : A) → get_elem? xs i ≡ some x → get_elem? (map h xs) i ≡ some (h x)
at-mapped h [] i x e = none-some e
at-mapped {A} {B} h (a ∷ xs) zero x e = let z : a ≡ x = cc in ap {B = Option B} (λ y. some (h y)) z
at-mapped h (a ∷ xs) (suc i) x e = at-mapped h xs i x e

module _ (s : Types) (rows : List Row) (ok : T (well_formed s rows)) where
  tree : Placed (map (λ r. r.parent) rows) (nodes_of [] rows)
  tree = nodes-placed s [] rows ok

  -- a row's parent is not after it, and the root's is itself
  pub parents-first : (i : ℕ) → i < length rows → get_or (map (λ r. r.parent) rows) i 0 ≤ i
  parents-first zero l = first rows ok
    where
      first : (rs : List Row) → T (well_formed s rs) → get_or (map (λ r. r.parent) rs) 0 0 ≤ 0
      first [] t = omega arith
      first (r ∷ rs) t = let z = (rooted s r rs t).parent in omega arith
  parents-first (suc i) l = let b = tree.before (suc i) (omega arith) (omega (arith, length-map rows (λ r. r.parent))) in omega arith

  module _ (f : ℕ → Bool) (set : Names) (agree : PassesFor f set rows) where
    -- the code of a row passes exactly if its node's name is in the set
    named : (r : ℕ) (y : Node) → NodeAt (nodes_of [] rows) r y → f (get_or (map (λ q. code_of q.name) rows) r 0) ≡ has (name_of y) set
    named r y a =
        let q = at_some rows r (omega (arith, at_bound (nodes_of [] rows) r y a, tree.size, length-map rows (λ r. r.parent))) in
        ap f (get_d_map (λ x. code_of x.name) rows r q.0 q.1) ∙ agree q.0 (at_in rows r q.0 q.1) ∙ ap (λ (n : Name). has n set) (same q.0 (at-mapped (λ x. x.name) rows r q.0 q.1) (at-mapped name_of (nodes_of [] rows) r y a))
      where
        same : (q : Row) → get_elem? (map (λ x. x.name) rows) r ≡ some q.name → get_elem? (map name_of (nodes_of [] rows)) r ≡ some (name_of y) → q.name ≡ name_of y
        same q b d = let z = ap (λ (l : List Name). get_elem? l r) (nodes-named [] rows) in cc

    kept-node : (r : ℕ) → r < length (map (λ q. q.parent) rows) → (y : Node) → NodeAt (nodes_of [] rows) r y
        → is_kept f (map (λ q. code_of q.name) rows) (map (λ q. q.parent) rows) r ≡ kept set y
    kept-node =
        by-parents ps tree.before (λ r. (y : Node) → NodeAt (nodes_of [] rows) r y → is_kept f codes ps r ≡ kept set y)
        (λ y a. kept-root f codes ps ∙ named 0 y a ∙ root y (tree.root y a))
        (λ r p l up y a. kept-later f codes ps tree.before r p l ∙ ap (λ (b : Bool). b && is_kept f codes ps (get_or ps r 0)) (named r y a) ∙ later r up y (tree.later r y p a))
      where
        ps : List ℕ
        ps = map (λ q. q.parent) rows

        codes : List ℕ
        codes = map (λ q. code_of q.name) rows

        root : (y : Node) → T (is_top y) → has (name_of y) set ≡ kept set y
        root (top k n) t = refl
        root (under k n w p) t = absurd t

        later : (r : ℕ) → ((x : Node) → NodeAt (nodes_of [] rows) (get_or ps r 0) x → is_kept f codes ps (get_or ps r 0) ≡ kept set x) → (y : Node)
            → ChildOf (nodes_of [] rows) (get_or ps r 0) y → (has (name_of y) set && is_kept f codes ps (get_or ps r 0)) ≡ kept set y
        later r up y (child-of {n = n} {x = x} a) = ap (λ (b : Bool). has n set && b) (up x a)

    -- the rows that the code keeps are those whose nodes `cut` keeps
    pub kept-tested : kept_marks f (map (λ q. code_of q.name) rows) (map (λ q. q.parent) rows) ≡ tested (kept set) (nodes_of [] rows)
    unfolding kept_marks
    kept-tested =
        sym (marks-by-rows (length (map (λ q. q.parent) rows)) _ (tested (kept set) (nodes_of [] rows)) (length-map (nodes_of [] rows) (λ y. mark (kept set y)) ∙ tree.size)
        (λ r l.
        let y = at_some (nodes_of [] rows) r (omega (arith, tree.size)) in
        get_d_map (λ x. mark (kept set x)) (nodes_of [] rows) r y.0 y.1 ∙ ap mark (sym (kept-node r l y.0 y.1))))

    pub cut-picked : cut set rows ≡ map (renumbered_by (kept_marks f (map (λ q. code_of q.name) rows) (map (λ q. q.parent) rows))) (picked (kept_marks f (map (λ q. code_of q.name) rows) (map (λ q. q.parent) rows)) rows)
    unfolding cut nodes_of
    cut-picked =
        cut-from set [] rows (λ i l. let b = parents-first i l in omega arith) _ kept-tested
        ∙ ap (λ (k : List ℕ). map (renumbered_by (kept_marks f (map (λ q. code_of q.name) rows) (map (λ q. q.parent) rows))) (picked k rows)) (sym kept-tested)

    -- ---- each column of the cut
    pub marks-size : length (kept_marks f (map (λ q. code_of q.name) rows) (map (λ q. q.parent) rows)) ≡ length rows
    marks-size = ap length kept-tested ∙ length-map (nodes_of [] rows) (λ y. mark (kept set y)) ∙ tree.size ∙ length-map rows (λ q. q.parent)

    cut-column : (h : Row → ℕ) (g : ℕ → ℕ) (m : List ℕ) → length m ≡ length rows → (k : Row → ℕ) → ((r : Row) → k (renumbered_by m r) ≡ g (h r))
        → cells_before (λ q. g (get_or (map h rows) q 0)) m (length rows) ≡ map k (map (renumbered_by m) (picked m rows))
    unfolding cells_before
    cut-column h g m e k same =
        joined-picked (λ q. g (get_or (map h rows) q 0) ∷ []) (λ r. g (h r) ∷ []) m rows e (λ r x a b. ap (λ (z : ℕ). g z ∷ []) (get_d_map h rows r x a))
        ∙ gather-map (λ r. g (h r)) (picked m rows) ∙ both (picked m rows)
      where
        both : (rs : List Row) → map (λ r. g (h r)) rs ≡ map k (map (renumbered_by m) rs)
        both [] = refl
        both (r ∷ rs) = ap₂ (λ (x : ℕ) (l : List ℕ). x ∷ l) (sym (same r)) (both rs)

    -- the columns that the code writes are those of the cut table
    pub cut-columns : kept_columns (kept_marks f (columns_in rows).names (columns_in rows).parents) (columns_in rows) (length (columns_in rows).parents) ≡ columns_in (cut set rows)
    unfolding kept_columns renumbered_by
    cut-columns =
        ap (kept_columns m (columns_in rows)) (length-map rows (λ q. q.parent))
        ∙ same-columns (cut-column (λ r. r.number) (λ x. x) m marks-size (λ r. r.number) (λ r. refl))
        (cut-column (λ r. code_of r.name) (λ x. x) m marks-size (λ r. code_of r.name) (λ r. refl)) (cut-column (λ r. r.parent) (rank m) m marks-size (λ r. r.parent) (λ r. refl))
        (cut-column (λ r. r.start) (λ x. x) m marks-size (λ r. r.start) (λ r. refl)) (cut-column (λ r. r.size) (λ x. x) m marks-size (λ r. r.size) (λ r. refl))
        (cut-column (λ r. r.decoded) (λ x. x) m marks-size (λ r. r.decoded) (λ r. refl))
        ∙ ap columns_in (sym cut-picked)
      where
        m : List ℕ
        m = kept_marks f (map (λ q. code_of q.name) rows) (map (λ q. q.parent) rows)
