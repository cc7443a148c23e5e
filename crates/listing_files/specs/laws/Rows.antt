-- A listing by the rows of the journal: the count of the selected nodes, and a line for each of them.
use Rattle.std.specs.Prelude.{Bool, ◌≡◌, T, eqb}
use Rattle.std.proofs.Math.Bool.{true, false, cond, not}
use mathlib.Core.List.{List, [], ◌∷◌, ◌++◌, map}
use Rattle.std.proofs.Math.Option.{some}
use Rattle.std.proofs.Math.Path.{refl, sym, ap, ap₂}
use Rattle.std.proofs.Common.{◌∙◌}
use Prim.Native.Nat.{ℕ, zero, suc, ◌+◌, ◌<◌}
use native.Mathlib.Omega.{arith}
use Rattle.std.proofs.Math.ListN.{length, get_or, get_elem?, length-map}
use Rattle.chains.specs.laws.Nodes.{cell-of}
use Rattle.library_spec.specs.Chains.{chain}
use Rattle.library_spec.specs.Listing.{ListingData, is_in, first_selecting, listing_line, header, header_of, listed}
use Rattle.listing_files.specs.laws.Firsts.{some-selects, first-selects}
use Rattle.listing_text.specs.lines.Lines.{line_of, row_line}
use Rattle.path_spec.specs.Paths.{LocationPath}
use Rattle.path_spec.specs.Selection.{select}
use Rattle.schema_spec.specs.Schemas.{Schema}
use Rattle.schema_spec.specs.Types.{Types}
use Rattle.selection.specs.first_paths.Firsts.{first_marked, columns_for, FirstPaths, selected_count}
use Rattle.table_laws.specs.Codes.{NamesCoded}
use Rattle.table_laws.specs.Columns.{parents_of, numbers_of, codes_of}
use Rattle.table_laws.specs.Parents.{NodeAt, nodes-numbered}
use Rattle.table_laws.specs.Places.{at_bound}
use Rattle.table_spec.specs.Nodes.{Node, node_number, nodes_of}
use Rattle.table_spec.specs.Rows.{Row}
use Rattle.table_spec.specs.Tables.{well_formed}
use Rattle.text_spec.specs.Lists.{any_of, filter_by, gather}

-- ---- definitions
-- the lines of n rows from r on
unfoldable pub row_lines : (ℕ → List ℕ) → ℕ → ℕ → List ℕ
row_lines line zero r = []
row_lines line (suc n) r = line r ++ row_lines line n (suc r)

-- ---- nodes by their rows
module _ (schema : Schema) (s : Types) (journal : List ℕ) (rows : List Row) (ok : T (well_formed s rows)) (coded : NamesCoded rows) (paths : List (LocationPath ℕ)) (kept : ℕ)
    (firsts : List ℕ) (noted : FirstPaths (parents_of rows) (codes_of rows) paths firsts) where
  abbrev doc : List Node
  doc = nodes_of journal rows

  abbrev listing : ListingData
  listing = record { schema = schema; nodes = doc; kept = kept; selections = map (select doc) paths }

  abbrev is_selected : Node → Bool
  is_selected y = any_of (is_in (node_number y)) (map (select doc) paths)

  module _ (r : ℕ) (y : Node) (a : NodeAt doc r y) where
    number_is : get_or (numbers_of rows) r 0 ≡ node_number y
    number_is = ap (λ (ks : List ℕ). get_or ks r 0) (sym (nodes-numbered journal rows)) ∙ cell-of node_number doc r y a

    in_rows : r < length rows
    in_rows = omega (arith, at_bound doc r y a, length-map doc node_number, ap length (nodes-numbered journal rows), length-map rows (λ x. x.number))

    first-is : get_or firsts r 0 ≡ first_marked 1 r (columns_for (parents_of rows) (codes_of rows) paths)
    first-is = noted.each r (omega (arith, in_rows, length-map rows (λ x. x.parent)))

    pub selected-is : is_selected y ≡ not (eqb (get_or firsts r 0) 0)
    selected-is =
        ap (λ (k : ℕ). any_of (is_in k) (map (select doc) paths)) (sym number_is)
        ∙ some-selects s journal rows ok coded r (omega (arith, in_rows, length-map rows (λ x. x.number))) 0 paths ∙ ap (λ (f : ℕ). not (eqb f 0)) (sym first-is)

    place_is : not (eqb (get_or firsts r 0) 0) ≡ true → first_selecting 1 (node_number y) (map (select doc) paths) ≡ get_or firsts r 0
    place_is h =
        ap (λ (k : ℕ). first_selecting 1 k (map (select doc) paths)) (sym number_is)
        ∙ first-selects s journal rows ok coded r (omega (arith, in_rows, length-map rows (λ x. x.number))) 0 paths (ap (λ (f : ℕ). not (eqb f 0)) (sym first-is) ∙ h)
        ∙ sym first-is

    pub line-is : (chain_of : ℕ → List ℕ) → chain_of r ≡ chain schema y → not (eqb (get_or firsts r 0) 0) ≡ true
        → listing_line listing y ≡ line_of (get_or (numbers_of rows) r 0) (get_or firsts r 0) (chain_of r)
    unfolding listing_line
    line-is chain_of e h =
        ap₂ (λ (k f : ℕ). line_of k f (chain schema y)) (sym number_is) (place_is h)
        ∙ ap (line_of (get_or (numbers_of rows) r 0) (get_or firsts r 0)) (sym e)

  -- ---- all rows
  module _ (chain_of : ℕ → List ℕ) (chains : (r : ℕ) (y : Node) → NodeAt doc r y → chain_of r ≡ chain schema y) where
    lines_from : (ys : List Node) (i : ℕ) → ((j : ℕ) (y : Node) → get_elem? ys j ≡ some y → NodeAt doc (i + j) y)
        → gather (listing_line listing) (filter_by is_selected ys) ≡ row_lines (row_line (numbers_of rows) firsts chain_of) (length ys) i
    unfolding row_lines row_line
    lines_from [] i h = refl
    lines_from (y ∷ ys) i h =
        let z : i + 0 ≡ i = omega arith in
        by (is_selected y) (not (eqb (get_or firsts i 0) 0)) (eqb (get_or firsts i 0) 0) refl (selected-is i y (here z)) refl (line-is i y (here z) chain_of (chains i y (here z)))
        (lines_from ys (suc i) (λ j x e. later j x e))
      where
        here : i + 0 ≡ i → NodeAt doc i y
        here z = ap (get_elem? doc) (sym z) ∙ h 0 y refl

        later : (j : ℕ) (x : Node) → get_elem? ys j ≡ some x → NodeAt doc (suc i + j) x
        later j x e = let z : suc i + j ≡ i + suc j = omega arith in ap (get_elem? doc) z ∙ h (suc j) x e

        by : (b c d : Bool) → is_selected y ≡ b → is_selected y ≡ c → not d ≡ c → (c ≡ true → listing_line listing y ≡ line_of (get_or (numbers_of rows) i 0) (get_or firsts i 0) (chain_of i))
            → gather (listing_line listing) (filter_by is_selected ys) ≡ row_lines (row_line (numbers_of rows) firsts chain_of) (length ys) (suc i)
            → gather (listing_line listing) (cond b (y ∷ filter_by is_selected ys) (filter_by is_selected ys))
            ≡ cond d [] (line_of (get_or (numbers_of rows) i 0) (get_or firsts i 0) (chain_of i)) ++ row_lines (row_line (numbers_of rows) firsts chain_of) (length ys) (suc i)
        by true true true p q u f g = let w : false ≡ true = u in cc
        by true true false p q u f g = ap₂ ◌++◌ (f refl) g
        by true false d p q u f g = let w : true ≡ false = sym p ∙ q in cc
        by false true d p q u f g = let w : true ≡ false = sym q ∙ p in cc
        by false false true p q u f g = g
        by false false false p q u f g = let w : true ≡ false = u in cc

  count-from : (ys : List Node) (fs : List ℕ) (i : ℕ) → length fs ≡ length ys → ((j : ℕ) → get_or fs j 0 ≡ get_or firsts (i + j) 0)
      → ((j : ℕ) (y : Node) → get_elem? ys j ≡ some y → NodeAt doc (i + j) y) → length (filter_by is_selected ys) ≡ selected_count fs
  unfolding selected_count
  count-from [] [] i e g h = refl
  count-from [] (f ∷ fs) i e g h = absurd (omega arith)
  count-from (y ∷ ys) [] i e g h = absurd (omega arith)
  count-from (y ∷ ys) (f ∷ fs) i e g h =
      let z : i + 0 ≡ i = omega arith in
      let near : f ≡ get_or firsts i 0 = g 0 ∙ ap (λ (k : ℕ). get_or firsts k 0) z in
      by (is_selected y) (eqb f 0) refl (selected-is i y (ap (get_elem? doc) (sym z) ∙ h 0 y refl) ∙ ap (λ (x : ℕ). not (eqb x 0)) (sym near))
      (count-from ys fs (suc i) (omega arith) (λ j. (let u : i + suc j ≡ suc i + j = omega arith in g (suc j) ∙ ap (λ (k : ℕ). get_or firsts k 0) u))
      (λ j x a. (let u : suc i + j ≡ i + suc j = omega arith in ap (get_elem? doc) u ∙ h (suc j) x a)))
    where
      by : (b d : Bool) → is_selected y ≡ b → is_selected y ≡ not d → length (filter_by is_selected ys) ≡ selected_count fs
          → length (cond b (y ∷ filter_by is_selected ys) (filter_by is_selected ys)) ≡ cond d (selected_count fs) (suc (selected_count fs))
      by true true p q k = let w : true ≡ false = sym p ∙ q in cc
      by true false p q k = ap suc k
      by false true p q k = k
      by false false p q k = let w : false ≡ true = sym p ∙ q in cc

  rows-of-nodes : length doc ≡ length rows
  rows-of-nodes = sym (length-map doc node_number) ∙ ap length (nodes-numbered journal rows) ∙ length-map rows (λ x. x.number)

  -- the whole listing: the header by the counts, and the lines of all rows
  pub listed-by-rows : (chain_of : ℕ → List ℕ) → ((r : ℕ) (y : Node) → NodeAt doc r y → chain_of r ≡ chain schema y)
      → listed listing ≡ header (selected_count firsts) kept (length rows) ++ row_lines (row_line (numbers_of rows) firsts chain_of) (length rows) 0
  unfolding header_of
  listed-by-rows chain_of chains =
      ap₂ ◌++◌
      (ap₂ (λ (n m : ℕ). header n kept m)
      (count-from doc firsts 0 (noted.long ∙ length-map rows (λ x. x.parent) ∙ sym rows-of-nodes) (λ j. ap (λ (k : ℕ). get_or firsts k 0) (zero-plus j)) (λ j y a. ap (get_elem? doc) (sym (zero-plus j)) ∙ a))
      rows-of-nodes)
      (lines_from chain_of chains doc 0 (λ j y a. ap (get_elem? doc) (sym (zero-plus j)) ∙ a)
      ∙ ap (λ (n : ℕ). row_lines (row_line (numbers_of rows) firsts chain_of) n 0) rows-of-nodes)
    where
      zero-plus : (j : ℕ) → j ≡ 0 + j
      zero-plus j = omega arith
