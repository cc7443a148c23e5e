-- The header and the lines of a listing: the selected nodes, the path that each line names, and that there is one such listing.
use Rattle.std.specs.Prelude.{Bool, true, false, cond, ◌⊎◌, ◌≡◌, refl, T, eqb, length}
use mathlib.Core.List.Memᴰ.{head as here}
use mathlib.Core.List.Memᴰ.{tail as there}
use mathlib.Core.List.{List, [], ◌∷◌, ◌++◌, map, Memᴰ as In}
use Rattle.std.proofs.Common.{⊎_elim, sym, ap, subst, ◌∙◌, arith, eqb→eq}
use Prim.Native.Nat.{ℕ, suc, ◌+◌}
use Rattle.std.proofs.Math.Dec.{eqb_refl}
use Rattle.extract_spec.specs.Cut.{cut}
use Rattle.inference_spec.specs.Needed.{needed}
use Rattle.library_spec.specs.Conditions.{Chosen, FirstPath, Lines, no_lines, next-line, Lists, lists}
use Rattle.library_spec.specs.Listing.{FilesRead, listing_data, is_in, selected_nodes, first_selecting, node_line, listing_line, header, header_of, listed}
use Rattle.path_laws.specs.Selection.{selected-sound, selected-complete, selected-filters}
use Rattle.path_spec.specs.Paths.{LocationPath}
use Rattle.path_spec.specs.Selection.{Selected, selected, select}
use Rattle.projection_laws.specs.Numbers.{node-known, nodes-count}
use Rattle.schema_spec.specs.Schemas.{Schema}
use Rattle.schema_spec.specs.Types.{Types, types_of}
use Rattle.table_spec.specs.Nodes.{Node, node_number, nodes_of}
use Rattle.table_spec.specs.Rows.{Row}
use Rattle.table_spec.specs.Tables.{well_formed}
use Rattle.text_laws.specs.Calls.{IsUnique}
use Rattle.text_laws.specs.Lists.{any-in, in-any, filter-in, filter-cong, first-split-once, in_map, map-in}
use Rattle.text_laws.specs.Tests.{or_cases, same_test}
use Rattle.text_spec.specs.Lists.{any_of, gather}

-- ---- what a listing says is one
-- tests that are sound and complete for the same nodes choose alike
chosen-once : {doc : List Node} {ps : List (LocationPath ℕ)} {ys zs : List Node} → Chosen doc ps ys → Chosen doc ps zs → ys ≡ zs
chosen-once {doc} c d =
    c.listed
    ∙ (filter-cong c.test d.test doc (λ y i. same_test (c.test y) (d.test y) (implies c d y i) (implies d c y i)) ∙ sym d.listed)
  where
    implies : {doc : List Node} {ps : List (LocationPath ℕ)} {ys zs : List Node} (a : Chosen doc ps ys) (b : Chosen doc ps zs) (y : Node) → In y doc → T (a.test y) → T (b.test y)
    implies a b y i t =
        let p = a.sound y i t in
        b.complete y p.0 p.1 p.2

first-path-once : {doc : List Node} {ps : List (LocationPath ℕ)} {y : Node} {j k : ℕ} → FirstPath doc ps y j → FirstPath doc ps y k → j ≡ k
first-path-once {doc} {ps} {y} f g =
    let e = first-split-once (λ p. Selected doc p y) f.before g.before (sym f.joined ∙ g.joined) f.selects g.selects f.none_before g.none_before in
    f.placed ∙ (ap (λ (l : List (LocationPath ℕ)). suc (length l)) e.0 ∙ sym g.placed)

lines-once : {s : Schema} {doc : List Node} {ps : List (LocationPath ℕ)} {ys : List Node} {l m : List ℕ} → Lines s doc ps ys l → Lines s doc ps ys m → l ≡ m
lines-once no_lines no_lines = refl
lines-once {s} (next-line {y = y} {rest = rest} j f x) (next-line {rest = more} k g z) =
    let e : j ≡ k = first-path-once f g in
    ap (λ (r : List ℕ). node_line s y j ++ r) (lines-once x z) ∙ ap (λ (i : ℕ). node_line s y i ++ more) e

lists-once : {journal : List ℕ} {f : FilesRead} {out more : List ℕ} → Lists journal f out → Lists journal f more → out ≡ more
lists-once {journal} {f} (lists {ys = ys} {lines = l} c x) (lists {ys = zs} {lines = m} d z) =
    let s = f.schema in
    let top : List Node → List ℕ = λ ns. header (length ns) (length (cut (needed (types_of s) f.paths) f.rows)) (length f.rows) in
    let e : ys ≡ zs = chosen-once c d in
    let k : l ≡ m = lines-once x (subst (λ (ns : List Node). Lines s (nodes_of journal f.rows) f.paths ns m) (sym e) z) in
    ap (λ (ns : List Node). top ns ++ l) e ∙ ap (λ (t : List ℕ). top zs ++ t) k

module _ (types : Types) (journal : List ℕ) (rows : List Row) (ok : T (well_formed types rows)) (s : Schema) (ps : List (LocationPath ℕ)) where
  abbrev files : FilesRead
  files = record { schema = s; paths = ps; rows = rows }

  abbrev doc : List Node
  doc = nodes_of journal rows

  abbrev chosen : Node → List (LocationPath ℕ) → Bool
  chosen y qs = any_of (is_in (node_number y)) (map (select doc) qs)

  -- a node's number is listed for a path exactly if the path selects the node
  listed-selected : (y : Node) (p : LocationPath ℕ) → In y doc → T (is_in (node_number y) (select doc p)) → Selected doc p y
  unfolding select
  listed-selected y p i t =
      let k = in-any (eqb (node_number y)) (select doc p) t in
      let z = map-in node_number (selected doc p) k.1 in
      let f = selected-filters doc p in
      let j : In z.0 doc = (filter-in f.0 doc (subst (λ (l : List Node). In z.0 l) f.1 z.1)).0 in
      let e : y ≡ z.0 = node-known types journal rows ok y z.0 i j (eqb→eq (node_number y) k.0 k.2 ∙ z.2) in
      selected-sound doc p y (subst (λ (x : Node). In x (selected doc p)) (sym e) z.1)

  selected-listed : (y : Node) (p : LocationPath ℕ) → Selected doc p y → T (is_in (node_number y) (select doc p))
  unfolding select
  selected-listed y p h = any-in (eqb (node_number y)) (in_map node_number (selected-complete doc p y h)) (eqb_refl (node_number y))

  chosen-nodes : Chosen doc ps (selected_nodes (listing_data journal files))
  chosen-nodes =
      record {
        test = λ y. chosen y ps;
        listed = refl;
        sound = λ y i t.
            let q = in-any (is_in (node_number y)) (map (select doc) ps) t in
            let p = map-in (select doc) ps q.1 in
            (p.0, p.1, listed-selected y p.0 i (subst (λ (l : List ℕ). T (is_in (node_number y) l)) p.2 q.2));
        complete = λ y p i h. any-in (is_in (node_number y)) (in_map (select doc) i) (selected-listed y p h);
      }

  -- the first path that lists a number, with those before it
  record First (y : Node) (i : ℕ) (qs : List (LocationPath ℕ)) : Type 0 where
    before : List (LocationPath ℕ)
    path : LocationPath ℕ
    after : List (LocationPath ℕ)
    joined : qs ≡ before ++ (path ∷ after)
    placed : first_selecting i (node_number y) (map (select doc) qs) ≡ i + length before
    lists : T (is_in (node_number y) (select doc path))
    none_before : (p : LocationPath ℕ) → In p before → T (is_in (node_number y) (select doc p)) → ⊥

  first-listing : (y : Node) (i : ℕ) (qs : List (LocationPath ℕ)) → T (chosen y qs) → First y i qs
  first-listing y i [] t = absurd t
  first-listing y i (q ∷ qs) t = pick (is_in (node_number y) (select doc q)) refl (first-listing y (suc i) qs)
    where
      k : ℕ
      k = node_number y

      later : List (List ℕ)
      later = map (select doc) qs

      pick : (b : Bool) → is_in k (select doc q) ≡ b → (T (chosen y qs) → First y (suc i) qs) → First y i (q ∷ qs)
      pick true e onward =
          record {
            before = [];
            path = q;
            after = qs;
            joined = refl;
            placed = ap (λ (b : Bool). cond b i (first_selecting (suc i) k later)) e ∙ omega arith;
            lists = subst T (sym e) tt;
            none_before = λ p j u. elim j [ ];
          }
      pick false e onward =
          let f = onward (⊎_elim (λ u. absurd (subst T e u)) (λ u. u) (or_cases (is_in k (select doc q)) (any_of (is_in k) later) t)) in
          record {
            before = q ∷ f.before;
            path = f.path;
            after = f.after;
            joined = ap {B = List (LocationPath ℕ)} (λ l. q ∷ l) f.joined;
            placed = ap (λ (b : Bool). cond b i (first_selecting (suc i) k later)) e ∙ (f.placed ∙ omega arith);
            lists = f.lists;
            none_before = not-before e f.none_before;
          }
        where
          not-before : {before : List (LocationPath ℕ)} → is_in k (select doc q) ≡ false → ((p : LocationPath ℕ) → In p before → T (is_in k (select doc p)) → ⊥)
              → (p : LocationPath ℕ) → In p (q ∷ before) → T (is_in k (select doc p)) → ⊥
          not-before e h p (here j) u = subst T e (subst (λ (x : LocationPath ℕ). T (is_in k (select doc x))) j u)
          not-before e h p (there j) u = h p j u

  first-path : (y : Node) → In y doc → T (chosen y ps) → FirstPath doc ps y (first_selecting 1 (node_number y) (map (select doc) ps))
  first-path y i t =
      let f = first-listing y 1 ps t in
      record {
        before = f.before;
        path = f.path;
        after = f.after;
        joined = f.joined;
        placed = f.placed ∙ omega arith;
        selects = listed-selected y f.path i f.lists;
        none_before = λ p j h. f.none_before p j (selected-listed y p h);
      }

  lines_of : (ys : List Node) → ((y : Node) → In y ys → In y doc × T (chosen y ps)) → Lines s doc ps ys (gather (listing_line (listing_data journal files)) ys)
  unfolding listing_line
  lines_of [] h = no_lines
  lines_of (y ∷ ys) h =
      let c = h y (here refl) in
      next-line (first_selecting 1 (node_number y) (map (select doc) ps)) (first-path y c.0 c.1) (lines_of ys (λ z i. h z (there i)))

  chosen-lines : Lines s doc ps (selected_nodes (listing_data journal files)) (gather (listing_line (listing_data journal files)) (selected_nodes (listing_data journal files)))
  chosen-lines = lines_of (selected_nodes (listing_data journal files)) (λ y i. filter-in (λ z. chosen z ps) doc i)

  -- what is printed where the three files are accepted
  pub listed-is : IsUnique (Lists journal files) (listed (listing_data journal files))
  unfolding header_of
  listed-is = (all, λ out x. lists-once x all)
    where
      lines : List ℕ
      lines = gather (listing_line (listing_data journal files)) (selected_nodes (listing_data journal files))

      all : Lists journal files (listed (listing_data journal files))
      all =
          subst (λ (n : ℕ). Lists journal files (header (length (selected_nodes (listing_data journal files))) (length (cut (needed (types_of s) ps) rows)) n ++ lines))
          (sym (nodes-count journal rows)) (lists chosen-nodes chosen-lines)
