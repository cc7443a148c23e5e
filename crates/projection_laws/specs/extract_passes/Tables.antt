-- The pass gives the rows of the items exactly where they are a well-formed table whose texts pass 3.
use Rattle.std.specs.Prelude.{Bool, cond, not, ◌&&◌, ◌≡◌, ℕ, suc, T}
use Rattle.std.proofs.Math.Bool.{true, false}
use mathlib.Core.List.Memᴰ.{eq_of_singleton as only_one}
use mathlib.Core.List.Memᴰ.{head as here}
use mathlib.Core.List.{List, [], ◌∷◌, ◌++◌}
use Rattle.std.proofs.Math.Option.{Option, none, some}
use Rattle.std.proofs.Math.Path.{refl, sym, ap}
use Rattle.std.proofs.Common.{◌∙◌, le_of_eq, arith}
use Rattle.std.proofs.Math.Dec.{eqb}
use Rattle.extract_spec.specs.Reading.{Item, element_item, text_item, count_item, no_item, Placed, open_from, cons_row, top_row, top_element, rows_of_later_items, rows_of_items}
use Rattle.library_spec.specs.Records.{kept_if}
use Rattle.projection_laws.specs.Opens.{placed, open-root}
use Rattle.projection_laws.specs.extract_passes.Levels.{found-level, root-level}
use Rattle.projection_laws.specs.extract_passes.Places.{Within, AllWithin, none_within, next-within}
use Rattle.projection_laws.specs.extract_passes.Rows.{Apart, Reached, node-under, element-test, text-test, reached-element, reached-text}
use Rattle.projection_laws.specs.extract_passes.Steps.{State, state, wrong, ended, onward, element_fits, text_fits, later_step, root_step, continued, later_items, table_items}
use Rattle.schema_spec.specs.Names.{element, text, same_name}
use Rattle.schema_spec.specs.Types.{Types}
use Rattle.table_spec.specs.Nodes.{Node, top, under, node_number, node_at}
use Rattle.table_spec.specs.Rows.{Row, element_row, text_row, characters_of}
use Rattle.table_spec.specs.Tables.{row_fits, later_rows, well_formed, text_inside, well_formed_with}
use Rattle.text_laws.specs.Tests.{never}
use Rattle.text_spec.specs.Lists.{all_of, is_empty}

-- ---- rows kept by a test, one row more
kept_cons : (f g : List Row → Bool) (r : Row) (b : Bool) (o : Option (List Row)) → ((rs : List Row) → f (r ∷ rs) ≡ (b && g rs))
    → kept_if f (cons_row r o) ≡ cond b (cons_row r (kept_if g o)) none
kept_cons f g r true none h = refl
kept_cons f g r false none h = refl
kept_cons f g r true (some rs) h = ap (λ (t : Bool). cond t (some (r ∷ rs)) none) (h rs) ∙ by (g rs)
  where
    by : (t : Bool) → cond t (some (r ∷ rs)) none ≡ cons_row r (cond t (some rs) none)
    by true = refl
    by false = refl
kept_cons f g r false (some rs) h = ap (λ (t : Bool). cond t (some (r ∷ rs)) none) (h rs)

-- a step that goes on where a test passes
continued-if : (b : Bool) (r : Row) (st : State) (f : State → Option (List Row)) → continued (cond b (onward r st) wrong) f ≡ cond b (cons_row r (f st)) none
continued-if true r st f = refl
continued-if false r st f = refl

if-same : {A : Type 0} (b : Bool) (x y z : A) → (T b → x ≡ y) → cond b x z ≡ cond b y z
if-same true x y z h = h tt
if-same false x y z h = refl

-- two tests of the first row and two of the rest
exchanged : (a b c d : Bool) → ((a && b) && (c && d)) ≡ ((a && c) && (b && d))
exchanged false b c d = refl
exchanged true false false d = refl
exchanged true false true d = refl
exchanged true true c d = refl

module _ (s : Types) (apart : Apart s) (bs : List ℕ) where
  -- the test of later rows, with their texts
  abbrev later_test : List Node → Node → List Row → Bool
  later_test before previous rs = later_rows s before previous rs && all_of (text_inside bs) rs

  -- one row under an open level
  row_kept : (before : List Node) (previous : Node) (r : Row) (y : Node) (fits : Bool) (o : Option (List Row)) → node_at [] before r ≡ y
      → (row_fits s before previous r y && text_inside bs r) ≡ fits
      → kept_if (later_test before previous) (cons_row r o) ≡ cond fits (cons_row r (kept_if (later_test (before ++ (y ∷ [])) y) o)) none
  row_kept before previous r y fits o e t =
      kept_cons (later_test before previous) (later_test (before ++ (y ∷ [])) y) r fits o
      (λ rs. ap (λ (z : Node). ((row_fits s before previous r z && later_rows s (before ++ (z ∷ [])) z rs) && (text_inside bs r && all_of (text_inside bs) rs))) e
      ∙ exchanged (row_fits s before previous r y) (later_rows s (before ++ (y ∷ [])) y rs) (text_inside bs r) (all_of (text_inside bs) rs)
      ∙ ap (λ (b : Bool). b && later_test (before ++ (y ∷ [])) y rs) t)

  abbrev Agrees : List Item → Type 0
  Agrees is = (before : List Node) (previous : Node) (st : State) → Reached s before previous st
      → later_items s bs st is ≡ kept_if (later_test before previous) (rows_of_later_items st.rows st.levels is)

  element-agrees : (number parent e : ℕ) (is : List Item) → Agrees is → Agrees (element_item number parent e ∷ is)
  unfolding later_items later_step
  element-agrees number parent e is rest before previous st c = by (open_from parent st.levels) refl
    where
      by : (os : List Placed) → open_from parent st.levels ≡ os
          → continued (cond (not (is_empty os) && element_fits s st number os e)
          (onward (element_row number e (top_row os)) (state (suc st.rows) number false (placed st.rows number e ∷ os))) wrong) (λ t. later_items s bs t is)
          ≡ kept_if (later_test before previous)
          (cond (is_empty os) none (cons_row (element_row number e (top_row os)) (rows_of_later_items (suc st.rows) (placed st.rows number e ∷ os) is)))
      by [] f = refl
      by (q ∷ qs) f =
          let found = found-level c.opened parent q qs f in
          let r = element_row number e q.row in
          let y = under number (element e) (characters_of [] r) found.node in
          let t = state (suc st.rows) number false (placed st.rows number e ∷ q ∷ qs) in
          let fits = element_fits s st number (q ∷ qs) e in
          let o = rows_of_later_items (suc st.rows) (placed st.rows number e ∷ q ∷ qs) is in
          continued-if fits r t (λ t. later_items s bs t is)
          ∙ if-same fits (cons_row r (later_items s bs t is)) (cons_row r (kept_if (later_test (before ++ (y ∷ [])) y) o)) none
          (λ u. ap (cons_row r) (rest (before ++ (y ∷ [])) y t (reached-element s apart bs before previous st c parent q qs f found number e (characters_of [] r) u)))
          ∙ sym (row_kept before previous r y fits o (node-under s apart bs before previous st c parent q qs f found r refl)
          (element-test s apart bs before previous st c parent q qs f found number e))

  text-agrees : (number parent start size : ℕ) (is : List Item) → Within bs (text_item number parent start size) → Agrees is → Agrees (text_item number parent start size ∷ is)
  unfolding later_items later_step
  text-agrees number parent start size is inside rest before previous st c = by (open_from parent st.levels) refl
    where
      by : (os : List Placed) → open_from parent st.levels ≡ os
          → continued (cond (not (is_empty os) && text_fits s bs st number os start size)
          (onward (text_row number (top_element os) (top_row os) start size size) (state (suc st.rows) number true os)) wrong) (λ t. later_items s bs t is)
          ≡ kept_if (later_test before previous)
          (cond (is_empty os) none (cons_row (text_row number (top_element os) (top_row os) start size size) (rows_of_later_items (suc st.rows) os is)))
      by [] f = refl
      by (q ∷ qs) f =
          let found = found-level c.opened parent q qs f in
          let r = text_row number q.element q.row start size size in
          let y = under number (text q.element) (characters_of [] r) found.node in
          let t = state (suc st.rows) number true (q ∷ qs) in
          let fits = text_fits s bs st number (q ∷ qs) start size in
          let o = rows_of_later_items (suc st.rows) (q ∷ qs) is in
          continued-if fits r t (λ t. later_items s bs t is)
          ∙ if-same fits (cons_row r (later_items s bs t is)) (cons_row r (kept_if (later_test (before ++ (y ∷ [])) y) o)) none
          (λ u. ap (cons_row r) (rest (before ++ (y ∷ [])) y t (reached-text s apart bs before previous st c parent q qs f found number start size (characters_of [] r) u)))
          ∙ sym (row_kept before previous r y fits o (node-under s apart bs before previous st c parent q qs f found r refl)
          (text-test s apart bs before previous st c parent q qs f found number start size inside))

  count-agrees : (n : ℕ) (is : List Item) → Agrees (count_item n ∷ is)
  unfolding later_items later_step
  count-agrees n [] before previous st c = by (eqb n st.rows)
    where
      by : (b : Bool) → continued (cond (true && b) ended wrong) (λ t. later_items s bs t []) ≡ kept_if (later_test before previous) (cond b (some []) none)
      by true = refl
      by false = refl
  count-agrees n (i ∷ is) before previous st c = refl

  nothing-agrees : (is : List Item) → Agrees (no_item ∷ is)
  unfolding later_items later_step
  nothing-agrees is before previous st c = refl

  end-agrees : Agrees []
  unfolding later_items
  end-agrees before previous st c = refl

  later_agrees : {is : List Item} → AllWithin bs is → Agrees is
  later_agrees none_within = end-agrees
  later_agrees (next-within {i = i} {is = is} w a) = by i w (later_agrees a)
    where
      by : (i : Item) → Within bs i → Agrees is → Agrees (i ∷ is)
      by (element_item number parent e) h rest = element-agrees number parent e is rest
      by (text_item number parent start size) h rest = text-agrees number parent start size is h rest
      by (count_item n) h rest = count-agrees n is
      by no_item h rest = nothing-agrees is

  -- ---- the root
  reached-root : (number e : ℕ) → Reached s (top number (element e) ∷ []) (top number (element e)) (state 1 number false (placed 0 number e ∷ []))
  reached-root number e =
      record {
        opened = open-root refl;
        counted = refl;
        numbered = refl;
        named = refl;
        is_last = here refl;
        bounded = λ x i. le_of_eq (ap node_number (only_one i));
        below = λ k n w p i. never (cc (only_one i));
        shallow = omega arith;
        held = root-level;
      }

  root-agrees : (number parent e : ℕ) (is : List Item) → Agrees is
      → table_items s bs (element_item number parent e ∷ is) ≡ kept_if (well_formed_with s bs) (rows_of_items (element_item number parent e ∷ is))
  unfolding table_items root_step well_formed_with well_formed
  root-agrees number parent e is rest =
      let fits = eqb number 0 && same_name (element e) s.root in
      let o = rows_of_later_items 1 (placed 0 number e ∷ []) is in
      by-parent (eqb parent 0)
      (continued-if fits r t (λ t. later_items s bs t is)
      ∙ if-same fits (cons_row r (later_items s bs t is)) (cons_row r (kept_if (later_test (y ∷ []) y) o)) none (λ u. ap (cons_row r) (rest (y ∷ []) y t (reached-root number e)))
      ∙ sym (kept_cons (well_formed_with s bs) (later_test (y ∷ []) y) r fits o
      (λ rs. parts (eqb number 0) (same_name (element e) s.root) (later_rows s (y ∷ []) y rs) (all_of (text_inside bs) rs))))
    where
      r : Row
      r = element_row number e 0

      y : Node
      y = top number (element e)

      t : State
      t = state 1 number false (placed 0 number e ∷ [])

      parts : (a b c d : Bool) → ((a && (b && c)) && d) ≡ ((a && b) && (c && d))
      parts false b c d = refl
      parts true false c d = refl
      parts true true c d = refl

      by-parent : (b : Bool) → continued (cond (eqb number 0 && same_name (element e) s.root) (onward r t) wrong) (λ t. later_items s bs t is)
          ≡ kept_if (well_formed_with s bs) (cons_row r (rows_of_later_items 1 (placed 0 number e ∷ []) is))
          → continued (cond (b && (eqb number 0 && same_name (element e) s.root)) (onward r t) wrong) (λ t. later_items s bs t is)
          ≡ kept_if (well_formed_with s bs) (cond b (cons_row r (rows_of_later_items 1 (placed 0 number e ∷ []) is)) none)
      by-parent true h = h
      by-parent false h = refl

  pub table-agrees : {is : List Item} → AllWithin bs is → table_items s bs is ≡ kept_if (well_formed_with s bs) (rows_of_items is)
  unfolding table_items root_step well_formed_with well_formed
  table-agrees none_within = refl
  table-agrees (next-within {i = i} {is = is} w a) = by i is (later_agrees a)
    where
      by : (i : Item) (is : List Item) → Agrees is → table_items s bs (i ∷ is) ≡ kept_if (well_formed_with s bs) (rows_of_items (i ∷ is))
      by (element_item number parent e) is h = root-agrees number parent e is h
      by (text_item number parent start size) is h = refl
      by (count_item n) [] h = count (eqb n 0)
        where
          count : (b : Bool) → continued (cond (true && b) ended wrong) (λ t. later_items s bs t []) ≡ kept_if (well_formed_with s bs) (cond b (some []) none)
          count true = refl
          count false = refl
      by (count_item n) (j ∷ is) h = refl
      by no_item is h = refl
