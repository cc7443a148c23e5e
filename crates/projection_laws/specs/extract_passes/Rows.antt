-- What is carried from row to row, and one row more: it fits by what is carried exactly where the test of well-formed tables says so.
use Rattle.std.specs.Prelude.{Bool, true, false, not, ◌&&◌, ◌||◌, ◌≡◌, refl, ℕ, suc, ◌+◌, ◌<◌, ◌≤◌, T, eqb, leb, ltb, length, drop}
use mathlib.Core.List.Memᴰ.{append_cases}
use mathlib.Core.List.Memᴰ.{append_right}
use mathlib.Core.List.Memᴰ.{eq_of_singleton as only_one}
use mathlib.Core.List.Memᴰ.{head as here}
use mathlib.Core.List.{List, [], ◌∷◌, ◌++◌, Memᴰ as In}
use Rattle.std.proofs.Common.{⊎_elim, sym, ap, ap₂, subst, ◌∙◌, arith, leb→le, le→leb, ltb→lt, length-append, length-take, length-drop}
use Rattle.std.proofs.Math.Option.{some}
use Rattle.std.proofs.Math.Dec.{eqb_refl}
use Rattle.std.proofs.Math.ListN.{get_elem?}
use Rattle.extract_spec.specs.Reading.{Placed, open_from}
use Rattle.projection_laws.specs.Items.{opens_after}
use Rattle.projection_laws.specs.Opens.{placed, Opens, open-root, open-element, open-text, opens-grow, opens-first, above_lower}
use Rattle.projection_laws.specs.extract_passes.Levels.{FoundLevel, levels-depth, found-few, HeldLevels, next_level, found-first-or-holds, found-held}
use Rattle.projection_laws.specs.extract_passes.Steps.{State, state, number_fits, element_fits, text_fits}
use Rattle.schema_spec.specs.Names.{Name, element, text, is_text}
use Rattle.schema_spec.specs.Types.{Types}
use Rattle.table_laws.specs.Nodes.{nodes-equal, nodes-same}
use Rattle.table_laws.specs.Places.{at-end}
use Rattle.table_spec.specs.Nodes.{Node, top, under, node_number, name_of, same, is_above, depth_of, node_at}
use Rattle.table_spec.specs.Rows.{Row, element_row, text_row, characters_of}
use Rattle.table_spec.specs.Tables.{same_parent, row_fits, copied_or_decoded, text_inside}
use Rattle.text_laws.specs.Lists.{any-in, in-any}
use Rattle.text_laws.specs.Tests.{or_left, true_of, same_test, and_cases, or_cases, decided}
use Rattle.text_spec.specs.Bytes.{is_foreign}
use Rattle.text_spec.specs.Limits.{max_nodes, max_depth, max_text_bytes}
use Rattle.text_spec.specs.Lists.{any_of, all_of, part}

-- an element that holds an element holds no text
abbrev pub Apart : Types → Type 0
Apart s = (a b x : ℕ) → T (s.holds (element a) (element b)) → T (s.holds (element a) (text x)) → ⊥

-- the nodes of the rows read, the last of them, and what is carried
pub record Reached (s : Types) (before : List Node) (previous : Node) (st : State) : Type 0 where
  pub opened : Opens before previous st.levels
  pub counted : length before ≡ st.rows
  pub numbered : node_number previous ≡ st.number
  pub named : is_text (name_of previous) ≡ st.after_text
  pub is_last : In previous before
  pub bounded : (x : Node) → In x before → node_number x ≤ node_number previous
  pub below : (k : ℕ) (n : Name) (w : List ℕ) (p : Node) → In (under k n w p) before → (node_number p < k) × (T (is_text (name_of p)) → ⊥)
  pub shallow : length st.levels ≤ max_depth
  pub held : HeldLevels s st.levels

no_text : (n : Name) (e : ℕ) → n ≡ element e → T (is_text n) → ⊥
no_text n e q t = subst (λ (m : Name). T (is_text m)) q t

-- ---- the parts of a test, put together
element-parts : (a b h d : Bool) → ((a && (b && (true && (h && (d && (true && true)))))) && true) ≡ ((a && b) && (h && d))
element-parts false b h d = refl
element-parts true false h d = refl
element-parts true true false d = refl
element-parts true true true true = refl
element-parts true true true false = refl

-- a text with two equal lengths: what is asked of the decoded length is said of the raw one
equal-lengths-fit : (m n x : Bool) → T x → (m && (n && (m && x))) ≡ (m && n)
equal-lengths-fit false n x t = refl
equal-lengths-fit true false x t = refl
equal-lengths-fit true true x t = true_of x t

and-passed : (u x : Bool) → T x → (u && x) ≡ u
and-passed false x t = refl
and-passed true x t = true_of x t

text-parts : (a b h w t m n z : Bool) → (T h → w ≡ t)
    → ((a && (b && (true && (h && (true && (not w && (m && n))))))) && (true && (true && z))) ≡ ((a && b) && (h && (not t && (m && (n && z)))))
text-parts false b h w t m n z e = refl
text-parts true false h w t m n z e = refl
text-parts true true false w t m n z e = refl
text-parts true true true w t m n z e = rw (e tt) (by t m n)
  where
    by : (t m n : Bool) → ((true && (true && (true && (true && (true && (not t && (m && n))))))) && (true && (true && z))) ≡ ((true && true) && (true && (not t && (m && (n && z)))))
    by true m n = refl
    by false false n = refl
    by false true false = refl
    by false true true = refl

module _ (s : Types) (apart : Apart s) (bs : List ℕ) (before : List Node) (previous : Node) (st : State) (c : Reached s before previous st) (parent : ℕ) (q : Placed)
    (qs : List Placed) (f : open_from parent st.levels ≡ q ∷ qs) (found : FoundLevel before previous q qs) where
  -- the node of a row under the level that was found
  pub node-under : (r : Row) → r.parent ≡ q.row → node_at [] before r ≡ under r.number r.name (characters_of [] r) found.node
  node-under r e = rw (e, found.is_at)

  line_low : node_number found.node ≤ node_number previous
  line_low =
      ⊎_elim (λ u. (let e = ap node_number (nodes-equal found.node previous u) in omega arith)) (λ u. (let l = above_lower c.opened found.node u in omega arith))
      (or_cases (same found.node previous) (is_above found.node previous) found.on_line)

  few : length (q ∷ qs) ≤ max_depth
  few = omega (arith, ap length f, found-few parent st.levels, c.shallow)

  -- ---- an element
  pub element-test : (number e : ℕ)
      → (row_fits s before previous (element_row number e q.row) (under number (element e) (characters_of [] (element_row number e q.row)) found.node)
      && text_inside bs (element_row number e q.row)) ≡ element_fits s st number (q ∷ qs) e
  element-test number e =
      let a = ltb st.number number in
      let b = ltb number max_nodes in
      ap₂ (λ (k : ℕ) (o : Bool). ((ltb k number && (b && (o && (s.holds (name_of found.node) (element e) && (leb (suc (depth_of found.node)) max_depth && (true && true)))))) && true))
      c.numbered (true_of (same found.node previous || is_above found.node previous) found.on_line)
      ∙ ap₂ (λ (n : Name) (d : ℕ). ((a && (b && (true && (s.holds n (element e) && (leb (suc d) max_depth && (true && true)))))) && true)) found.name (levels-depth found.opens)
      ∙ element-parts a b (s.holds (element q.element) (element e)) (leb (suc (length (q ∷ qs))) max_depth)

  -- ---- a text: the first of its element where the row before is none
  module _ (number : ℕ) (w : List ℕ) where
    abbrev y : Node
    y = under number (text q.element) w found.node

    abbrev twin : Node → Bool
    twin z = is_text (name_of z) && same_parent z y

    module _ (holds : T (s.holds (element q.element) (text q.element))) where
      innermost : st.levels ≡ q ∷ qs
      innermost = ⊎_elim (λ e. e) (λ h. absurd (apart q.element h.0 q.element h.1 holds)) (found-first-or-holds c.held parent q qs f)

      -- the innermost open element is the parent
      same_place : {z : Node} → Opens before z st.levels → (T (is_text (name_of z)) → ⊥) → z ≡ found.node
      same_place {z} o n =
          let x = opens-first o n in
          let e : placed x.0 (node_number z) x.1 ∷ x.2 ≡ q ∷ qs = sym x.3 ∙ innermost in
          let i : x.0 ≡ q.row = cc in
          let g : get_elem? before q.row ≡ some z = ap (get_elem? before) (sym i) ∙ x.4 in
          cc found.is_at

      second-twin : {z : Node} {os : List Placed} → Opens before z os → os ≡ st.levels → In z before → T (is_text (name_of z)) → T (any_of twin before)
      second-twin (open-root g) l i t = absurd t
      second-twin (open-element g h o) l i t = absurd t
      second-twin (open-text {k = k} {e = e} {w = v} {p = x} h o) l i t =
          let x-is : x ≡ found.node = same_place (subst (Opens before x) l o) (c.below k (text e) v x i).1 in
          any-in twin i (subst (λ (u : Node). T (same x u)) x-is (nodes-same x))

      twin-second : (z : Node) → In z before → T (twin z) → (T (is_text (name_of previous)) → ⊥) → ⊥
      twin-second (top k n) i t other = (and_cases (is_text n) false t).1
      twin-second (under k n v x) i t other =
          let x-is : x ≡ found.node = nodes-equal x found.node (and_cases (is_text n) (same x found.node) t).1 in
          let p-is : previous ≡ found.node = same_place c.opened other in
          let l = (c.below k n v x i).0 in
          let b = c.bounded (under k n v x) i in
          let e = ap node_number x-is in
          let g = ap node_number p-is in
          omega arith

      lone-text : any_of twin before ≡ st.after_text
      lone-text =
          same_test (any_of twin before) (is_text (name_of previous))
          (λ t.
          let r = in-any twin before t in
          ⊎_elim (λ u. u) (λ other. absurd (twin-second r.0 r.1 r.2 other)) (decided (is_text (name_of previous))))
          (λ t. second-twin c.opened refl c.is_last t) ∙ c.named

  pub text-test : (number start size : ℕ) → start + size ≤ length bs
      → (row_fits s before previous (text_row number q.element q.row start size size) (under number (text q.element) (characters_of [] (text_row number q.element q.row start size size)) found.node)
      && text_inside bs (text_row number q.element q.row start size size)) ≡ text_fits s bs st number (q ∷ qs) start size
  text-test number start size l =
      let e = q.element in
      let v = characters_of [] (text_row number e q.row start size size) in
      let a = ltb st.number number in
      let b = ltb number max_nodes in
      let m = leb 1 size in
      let n = leb size max_text_bytes in
      let z = all_of (λ x. not (is_foreign x)) (part start size bs) in
      let long : length (part start size bs) ≡ size = omega (arith, length-take size (drop start bs), length-drop start bs) in
      let inside = leb start (length bs) && (eqb (length (part start size bs)) size && z) in
      ap₂ (λ (cells ranges : Bool). ((ltb (node_number previous) number && (b && ((same found.node previous || is_above found.node previous) && (s.holds (name_of found.node) (text e) && (leb (depth_of found.node) max_depth && (not (any_of (twin number v) before) && cells)))))) && ranges))
      (equal-lengths-fit m n (leb size size) (le→leb size size (omega arith))) (and-passed inside (copied_or_decoded bs (text_row number e q.row start size size)) (or_left (eqb size size) _ (eqb_refl size)))
      ∙ ap₂ (λ (k : ℕ) (o : Bool). ((ltb k number && (b && (o && (s.holds (name_of found.node) (text e) && (leb (depth_of found.node) max_depth && (not (any_of (twin number v) before) && (m && n))))))) && (leb start (length bs) && (eqb (length (part start size bs)) size && z))))
      c.numbered (true_of (same found.node previous || is_above found.node previous) found.on_line)
      ∙ ap₂ (λ (x : Name) (d : ℕ). ((a && (b && (true && (s.holds x (text e) && (leb d max_depth && (not (any_of (twin number v) before) && (m && n))))))) && (leb start (length bs) && (eqb (length (part start size bs)) size && z))))
      found.name (levels-depth found.opens)
      ∙ ap₂ (λ (d u : Bool). ((a && (b && (true && (s.holds (element e) (text e) && (d && (not (any_of (twin number v) before) && (m && n))))))) && (u && (eqb (length (part start size bs)) size && z))))
      (true_of (leb (length (q ∷ qs)) max_depth) (le→leb (length (q ∷ qs)) max_depth few)) (true_of (leb start (length bs)) (le→leb start (length bs) (omega arith)))
      ∙ ap (λ (u : Bool). ((a && (b && (true && (s.holds (element e) (text e) && (true && (not (any_of (twin number v) before) && (m && n))))))) && (true && (u && z))))
      (true_of (eqb (length (part start size bs)) size) (subst (λ (k : ℕ). T (eqb (length (part start size bs)) k)) long (eqb_refl (length (part start size bs)))))
      ∙ text-parts a b (s.holds (element e) (text e)) (any_of (twin number v) before) st.after_text m n z (λ h. lone-text number v h)

  -- ---- what is carried on
  levels-after : (n : Name) (number : ℕ) (w : List ℕ) → node_number previous < number
      → Opens (before ++ (under number n w found.node ∷ [])) (under number n w found.node) (opens_after n st.rows number (q ∷ qs))
  levels-after (element e) number w l =
      let z = under number (element e) w found.node in
      open-element (ap (get_elem? (before ++ (z ∷ []))) (sym c.counted) ∙ at-end before z []) (omega (arith, line_low)) (opens-grow z found.opens)
  levels-after (text e) number w l =
      let low : node_number found.node < number = omega (arith, line_low) in
      open-text low (opens-grow (under number (text e) w found.node) found.opens)

  reached-under : (n : Name) (number : ℕ) (w : List ℕ) → node_number previous < number → length (opens_after n st.rows number (q ∷ qs)) ≤ max_depth
      → HeldLevels s (opens_after n st.rows number (q ∷ qs))
      → Reached s (before ++ (under number n w found.node ∷ [])) (under number n w found.node) (state (suc st.rows) number (is_text n) (opens_after n st.rows number (q ∷ qs)))
  reached-under n number w l few' held' =
      record {
        opened = levels-after n number w l;
        counted = omega (arith, length-append before (z ∷ []), c.counted);
        numbered = refl;
        named = refl;
        is_last = append_right before (here refl);
        bounded = λ x i. ⊎_elim (λ u. (let b = c.bounded x u in omega arith)) (λ u. (let e = ap node_number (only_one u) in omega arith)) (append_cases before i);
        below = λ k m v x i. ⊎_elim (λ u. c.below k m v x u) (λ u. last k m v x (only_one u)) (append_cases before i);
        shallow = few';
        held = held';
      }
    where
      z : Node
      z = under number n w found.node

      last : (k : ℕ) (m : Name) (v : List ℕ) (x : Node) → under k m v x ≡ under number n w found.node → (node_number x < k) × (T (is_text (name_of x)) → ⊥)
      last k m v x e =
          let a : k ≡ number = cc in
          let b : x ≡ found.node = cc in
          let low = line_low in
          let d = ap node_number b in
          (omega arith, λ t. no_text (name_of x) q.element (ap name_of b ∙ found.name) t)

  pub reached-element : (number e : ℕ) (w : List ℕ) → T (element_fits s st number (q ∷ qs) e)
      → Reached s (before ++ (under number (element e) w found.node ∷ [])) (under number (element e) w found.node)
      (state (suc st.rows) number false (placed st.rows number e ∷ q ∷ qs))
  reached-element number e w t =
      let h = s.holds (element q.element) (element e) in
      let d = leb (suc (length (q ∷ qs))) max_depth in
      let a = and_cases (number_fits st number) (h && d) t in
      let b = and_cases (ltb st.number number) (ltb number max_nodes) a.0 in
      let x = and_cases h d a.1 in
      reached-under (element e) number w (omega (arith, c.numbered, ltb→lt st.number number b.0)) (leb→le (suc (length (q ∷ qs))) max_depth x.1)
      (next_level x.0 (found-held c.held parent q qs f))

  pub reached-text : (number start size : ℕ) (w : List ℕ) → T (text_fits s bs st number (q ∷ qs) start size)
      → Reached s (before ++ (under number (text q.element) w found.node ∷ [])) (under number (text q.element) w found.node) (state (suc st.rows) number true (q ∷ qs))
  reached-text number start size w t =
      let a = and_cases (number_fits st number) _ t in
      let b = and_cases (ltb st.number number) (ltb number max_nodes) a.0 in
      reached-under (text q.element) number w (omega (arith, c.numbered, ltb→lt st.number number b.0)) few (found-held c.held parent q qs f)
