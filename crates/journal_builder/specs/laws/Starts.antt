-- Laws of start tags.
use Rattle.std.specs.Prelude.{Bool, true, false, cond, not, ◌&&◌, List, [], ◌∷◌, ◌++◌, ◌≡◌, refl, eqb, leb, length, Option as CodeOption, Some, None}
use Rattle.std.proofs.Common.{true≢false, ◌∙◌, mod-eq_of_lt}
use Rattle.std.proofs.Math.Option.{Option, none, some}
use Rattle.std.proofs.Math.Path.{sym, ap, ap₂, subst}
use Prim.Native.Nat.{ℕ, suc, ◌%◌, ◌≤◌, ◌<◌}
use native.Mathlib.Omega.{arith}
use borrow.Author.Tests.{le-leb, lt-leb, leb-false, eqb-true, eq-eqb, ne_eqb}
use Rattle.cells.specs.columns.Columns.{cells}
use Rattle.journal_builder.specs.build_state.State.{judged_from, RowsBelow, Built, begun-row, Leaves, SafeStep, is_second_root, is_wrong_root, begun, step}
use Rattle.journal_builder.specs.declared.build_state.Build.{Build}
use Rattle.journal_builder.specs.declared.open_levels.Level.{Level}
use Rattle.journal_builder.specs.laws.StateLaws.{length_refill, below_more, below-refill, faults-now, placed-now, judged-now}
use Rattle.journal_builder.specs.open_levels.Levels.{level_at, Opened}
use Rattle.journal_builder.specs.rows.Rows.{element_cells}
use Rattle.journal_spec.specs.Builder.{Open, Building, breaks, parent_row, refill, with_child, filling_for, wrong_root, begin, on_start}
use Rattle.schema_spec.specs.Names.{element, code_of}
use Rattle.schema_spec.specs.Schemas.{Schema, element_named}
use Rattle.table_spec.specs.Rows.{Cells, cells_of, element_row}
use Rattle.text.specs.fault_keys.KeyLaws.{least-given, placed-given, noted-none, noted-from}
use Rattle.text.specs.fault_keys.Keys.{no_key, place_limit, noted_key}
use Rattle.text_laws.specs.Lists.{bytes_same}
use Rattle.text_laws.specs.Tests.{true_of}
use Rattle.text.specs.lookup.Lookup.{found}
use Rattle.text_spec.specs.Limits.{max_depth, max_nodes}
use Rattle.text_spec.specs.Lists.{is_empty, is_none, value_or, same_bytes}
use Rattle.text_spec.specs.Refusals.{at, given, bad_nesting, over_depth, undeclared_element, bad_content, over_node_limit}

-- ---- the test of the root, by what a name is found to be
wrong-root-test : (o : Option ℕ) (os : List Open) (d : ℕ) (e : CodeOption ℕ) → d ≡ length os → found e ≡ o → wrong_root os o ≡ is_wrong_root d e
wrong-root-test o [] d (Some a) q f = rw (q, ← f) refl
wrong-root-test o [] d None q f = rw (q, ← f) refl
wrong-root-test o (x ∷ os) d e q f = let n : (d ≡ 0 → ⊥) = λ z. omega arith in rw (ne_eqb d 0 n) refl

-- the code of an element that is declared
code-of-some : (o : Option ℕ) → is_none o ≡ false → value_or 32 o ≡ value_or 0 o
code-of-some none e = absurd (true≢false e)
code-of-some (some a) e = refl

-- ---- the row of the innermost open element
pub no-parent : (os : List Open) (d : ℕ) → d ≡ length os → d ≡ 0 → 0 ≡ parent_row os
no-parent [] d e z = refl
no-parent (o ∷ os) d e z = absurd (omega arith)

pub own_row : (s : Schema) (levels : List Level) (os : List Open) (d : ℕ) → d ≡ length os → (d ≡ 0 → ⊥) → Opened s levels os → (level_at levels d).row ≡ parent_row os
own_row s levels [] d e z h = absurd (z e)
own_row s levels (o ∷ os) d e z h = ap (λ (k : ℕ). (level_at levels k).row) e ∙ h.0.row

parent-below : (n : ℕ) (os : List Open) → n ≤ max_nodes → RowsBelow n os → parent_row os < 65536
parent-below n [] h w = omega arith
parent-below n (o ∷ os) h w = omega (arith, w.0)

-- ---- an element begins
module _ (s : Schema) (b : Building) (n : List ℕ) (k : ℕ) (e : CodeOption ℕ) (levels u : List Level) (m : Build) (parent : ℕ) (of-name : found e ≡ element_named s n)
    (placed : k < place_limit) (room : m.depth < max_depth) (whole : is_none b.broken ≡ true) (w : Built s levels m b) where
  over : ℕ
  over = noted_key (leb max_nodes m.count) 16 k m.fault

  wrong : ℕ
  wrong = noted_key (is_wrong_root m.depth e) 15 k over

  -- no refusal applies after it: then none did before, the element is declared, and the row is one of the table's
  none_after : (begun m e k).fault ≡ no_key → (is_none (found e) ≡ false) × (leb max_nodes m.count ≡ false) × (m.fault ≡ no_key)
  unfolding over wrong
  none_after z =
      let x = noted-none (is_none (found e)) 14 k wrong (omega arith) placed z in
      let y = noted-none (is_wrong_root m.depth e) 15 k over (omega arith) placed x.1 in
      let v = noted-none (leb max_nodes m.count) 16 k m.fault (omega arith) placed y.1 in
      (x.0, v.0, v.1)

  begin-built : Opened s u (record { name = n; place = k; row = m.count; filling = filling_for s (element_named s n) } ∷ refill (with_child (element_named s n)) b.opens)
      → Built s u (begun m e k) (begin s n k b)
  unfolding over wrong
  begin-built o =
      record {
        depth = omega (arith, w.depth, length_refill (with_child (element_named s n)) b.opens);
        opened =
            subst (λ (r : ℕ). Opened s u (record { name = n; place = k; row = r; filling = filling_for s (element_named s n) } ∷ refill (with_child (element_named s n)) b.opens)) w.count o;
        below =
            (omega arith, below-refill (suc b.count) (with_child (element_named s n)) b.opens (below_more b.count (suc b.count) b.opens (omega arith) w.below));
        count = omega (arith, w.count);
        listed = ap suc w.listed;
        rooted = let z : (suc b.count ≡ 0 → ⊥) = λ x. omega arith in rw (ne_eqb (suc b.count) 0 z) refl;
        fault =
            ap₂ (λ (x y : Bool). noted_key x 14 k (noted_key y 15 k over)) (ap is_none of-name) (sym (wrong-root-test (element_named s n) b.opens m.depth e w.depth of-name))
            ∙ ap₂ (λ (x y : ℕ). noted_key (is_none (element_named s n)) 14 k (noted_key (wrong_root b.opens (element_named s n)) 15 k (noted_key (leb max_nodes x) 16 k y))) w.count (faults-now s b levels m whole w)
            ∙ sym
            (least-given (is_none (element_named s n)) undeclared_element k (given (wrong_root b.opens (element_named s n)) (at bad_content k) ++ (given (leb max_nodes b.count) (at over_node_limit k) ++ b.faults))
            ∙ ap (noted_key (is_none (element_named s n)) 14 k)
            (least-given (wrong_root b.opens (element_named s n)) bad_content k (given (leb max_nodes b.count) (at over_node_limit k) ++ b.faults)
            ∙ ap (noted_key (wrong_root b.opens (element_named s n)) 15 k) (least-given (leb max_nodes b.count) over_node_limit k b.faults)));
        placed =
            placed-given (is_none (element_named s n)) undeclared_element k (given (wrong_root b.opens (element_named s n)) (at bad_content k) ++ (given (leb max_nodes b.count) (at over_node_limit k) ++ b.faults)) placed
            (placed-given (wrong_root b.opens (element_named s n)) bad_content k (given (leb max_nodes b.count) (at over_node_limit k) ++ b.faults) placed
            (placed-given (leb max_nodes b.count) over_node_limit k b.faults placed (placed-now s b levels m whole w)));
        judged =
            sym (le-leb judged_from (begun m e k).fault
            (noted-from 14 (is_none (found e)) 14 k wrong (omega arith)
            (noted-from 14 (is_wrong_root m.depth e) 15 k over (omega arith) (noted-from 14 (leb max_nodes m.count) 16 k m.fault (omega arith) (judged-now s b levels m whole w)))));
        few = λ z. let x = none_after z in omega (arith, leb-false max_nodes m.count x.1, w.count);
      }

  -- the cells of its row
  row-cells : (begun m e k).fault ≡ no_key → parent ≡ parent_row b.opens
      → cells m.count (element_cells e parent) ≡ cells_of (element_row b.count (value_or 0 (element_named s n)) (parent_row b.opens))
  row-cells z p =
      let x = none_after z in
      let c = leb-false max_nodes m.count x.1 in
      let q : parent < 65536 = subst (λ (y : ℕ). y < 65536) (sym p) (parent-below b.count b.opens (w.few x.2) w.below) in
      let i : m.count < 65536 = omega arith in
      same (m.count % 65536) b.count (value_or 32 (found e)) (code_of (element (value_or 0 (element_named s n)))) (parent % 65536) (parent_row b.opens)
      (mod-eq_of_lt i ∙ w.count) (code-of-some (found e) x.0 ∙ ap (value_or 0) of-name) (mod-eq_of_lt q ∙ p)
    where
      same : (a a' c c' d d' : ℕ) → a ≡ a' → c ≡ c' → d ≡ d'
          → ◌≡◌ {A = Cells} (record { number = a; name = c; parent = d; start = 0; size = 0; decoded = 0 }) (record { number = a'; name = c'; parent = d'; start = 0; size = 0; decoded = 0 })
      same a a' c c' d d' p q r = rw (p, q, r)

  pub begin-leaves : parent ≡ parent_row b.opens
      → Opened s u (record { name = n; place = k; row = m.count; filling = filling_for s (element_named s n) } ∷ refill (with_child (element_named s n)) b.opens)
      → Leaves s u m b (step (begun m e k) (Some (element_cells e parent))) (begin s n k b)
  begin-leaves p o = record { built = begin-built o; rows = λ z. begun-row refl (row-cells z p) }

pub begin-safe : (m : Build) (e : CodeOption ℕ) (k parent : ℕ) → m.depth < max_depth → SafeStep m (step (begun m e k) (Some (element_cells e parent)))
begin-safe m e k parent room = record { shallow = omega arith; counted = omega arith }

-- ---- whether it begins
module _ (s : Schema) (b : Building) (levels : List Level) (m : Build) (w : Built s levels m b) (n : List ℕ) (k : ℕ) where
  pub start-second : is_second_root m ≡ true → on_start s n k b ≡ breaks (at bad_nesting k) b
  start-second e = pick b.opens w.depth (eqb m.depth 0) (eqb m.count 0) refl refl e
    where
      pick : (os : List Open) → m.depth ≡ length os → (x y : Bool) → eqb m.depth 0 ≡ x → eqb m.count 0 ≡ y → (x && not y) ≡ true
          → cond (is_empty os) (cond b.rooted (breaks (at bad_nesting k) b) (begin s n k b)) (cond (leb max_depth (length os)) (breaks (at over_depth k) b) (begin s n k b)) ≡ breaks (at bad_nesting k) b
      pick [] d true true p q h = absurd (true≢false (sym h))
      pick [] d false y p q h = absurd (true≢false (sym h))
      pick [] d true false p q h = rw (w.rooted, ← w.count, q) refl
      pick (o ∷ os) d true y p q h = let z = eqb-true m.depth 0 p in absurd (omega arith)
      pick (o ∷ os) d false y p q h = absurd (true≢false (sym h))

  pub start-deep : max_depth ≤ m.depth → on_start s n k b ≡ breaks (at over_depth k) b
  start-deep h = pick b.opens w.depth
    where
      pick : (os : List Open) → m.depth ≡ length os
          → cond (is_empty os) (cond b.rooted (breaks (at bad_nesting k) b) (begin s n k b)) (cond (leb max_depth (length os)) (breaks (at over_depth k) b) (begin s n k b)) ≡ breaks (at over_depth k) b
      pick [] d = absurd (omega arith)
      pick (o ∷ os) d = let l : max_depth ≤ suc (length os) = omega arith in rw (le-leb max_depth (suc (length os)) l) refl

  pub start-begins : is_second_root m ≡ false → m.depth < max_depth → on_start s n k b ≡ begin s n k b
  start-begins e h = pick b.opens w.depth (eqb m.count 0) refl e
    where
      pick : (os : List Open) → m.depth ≡ length os → (y : Bool) → eqb m.count 0 ≡ y → (eqb m.depth 0 && not y) ≡ false
          → cond (is_empty os) (cond b.rooted (breaks (at bad_nesting k) b) (begin s n k b)) (cond (leb max_depth (length os)) (breaks (at over_depth k) b) (begin s n k b)) ≡ begin s n k b
      pick [] d true q z = rw (w.rooted, ← w.count, q) refl
      pick [] d false q z = absurd (true≢false (sym (ap (λ (x : Bool). x && true) (eq-eqb m.depth 0 d)) ∙ z))
      pick (o ∷ os) d y q z = let l : suc (length os) < max_depth = omega arith in rw (lt-leb max_depth (suc (length os)) l) refl

-- the innermost open element has this name
abbrev pub is_innermost : List Open → List ℕ → Bool
is_innermost [] n = false
is_innermost (o ∷ os) n = same_bytes n o.name

-- a tag that begins an element leaves it innermost
pub start-innermost : (s : Schema) (n : List ℕ) (k : ℕ) (b : Building) → is_none (on_start s n k b).broken ≡ true → is_innermost (on_start s n k b).opens n ≡ true
start-innermost s n k b e = pick (is_empty b.opens) b.rooted (leb max_depth (length b.opens)) e
  where
    here : same_bytes n n ≡ true
    here = true_of (same_bytes n n) (bytes_same n)

    pick : (x y z : Bool)
        → is_none (cond x (cond y (breaks (at bad_nesting k) b) (begin s n k b)) (cond z (breaks (at over_depth k) b) (begin s n k b))).broken ≡ true
        → is_innermost (cond x (cond y (breaks (at bad_nesting k) b) (begin s n k b)) (cond z (breaks (at over_depth k) b) (begin s n k b))).opens n ≡ true
    pick true true z e = absurd (true≢false (sym e))
    pick true false z e = here
    pick false y true e = absurd (true≢false (sym e))
    pick false y false e = here
