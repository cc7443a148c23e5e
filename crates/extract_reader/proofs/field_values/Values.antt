-- The values of fields: an element's and a text's.
use mathlib.Core.Bool.{Bool, true, false, cond, not, ◌&&◌}
use mathlib.Core.List.{List, ◌∷◌}
use mathlib.Core.Logic.{◌⊎◌, inl, inr, ⊎_elim}
use mathlib.Core.Path.{◌≡◌, refl, sym, ap, ap₂, ◌∙◌}
use Prim.Native.Nat.{ℕ, zero, suc, ◌+◌, ◌-◌, ◌<◌, ◌≤◌}
use native.Mathlib.Omega.{arith}
use borrow.Author.Tests.{le-leb, lt-leb, eq-eqb}
use lib.Dec.{T, eqb, leb, ltb, ltb→lt, leb→le}
use lib.ListN.{get_or, take, drop}
use Rattle.std.specs.Prelude.{Some, None}
use Rattle.extract_reader.specs.declared.field_values.Field.TheVariants.{Element, Text}
use Rattle.extract_reader.specs.declared.levels.Level.{Level}
use Rattle.extract_reader.specs.declared.reading.Carried.{Carried}
use Rattle.extract_reader.specs.field_ends.Values.{no-element, five, no_text, four, value-long, value-at, in_two_lem, number_in, parent_in}
use Rattle.extract_reader.specs.field_tests.TestLaws.{and-nothing, element-test, text-test}
use Rattle.extract_reader.specs.field_tests.Tests.{held_by, word_types, LevelPass, element_under, text_under}
use Rattle.extract_reader.specs.field_values.Fields.{state_in, field_step, ValuePass, ElementAs, TextAs}
use Rattle.extract_reader.specs.levels.Levels.{levels_in, last_element, LevelOf}
use Rattle.extract_spec.specs.Reading.{element_item, text_item, element_value, text_value, Placed, open_from, top_row, top_element}
use Rattle.projection_laws.specs.Opens.{placed}
use Rattle.projection_laws.specs.extract_passes.Steps.{wrong, onward, state, element_fits, text_fits, later_step}
use Rattle.schema_spec.specs.Names.{element, text}
use Rattle.table_spec.specs.Rows.{element_row, text_row}
use Rattle.text.specs.foreign_bytes.Laws.{none-foreign}
use Rattle.text_laws.specs.Searches.{below-or-past}
use Rattle.text_laws.specs.Tests.{cond_yes, cond_no, passed, and_cases}
use Rattle.text_spec.specs.Bytes.{is_foreign}
use Rattle.text_spec.specs.Limits.{max_declarations, max_nodes, max_depth, max_text_bytes}
use Rattle.text_spec.specs.Lists.{any_of, all_of, is_empty, part}

positive : (d : ℕ) → T (not (eqb d 0)) → 0 < d
positive zero v = absurd v
positive (suc d) v = omega arith

-- ---- an element
module _ (bs words : List ℕ) (levels : List Level) (c : Carried) (size : ℕ) (h : ValuePass bs levels c size) where
  abbrev from : ℕ
  from = c.at + 3

  pub element-misfit : (size ≡ 5 → ⊥) → ElementAs bs words levels c size None
  unfolding later_step
  element-misfit n =
      record {
        step = λ last. sym (ap (later_step (word_types words) bs (state_in levels c) last)
            (no-element (part from size bs) (λ l. n (sym (value-long bs from size h.inside) ∙ l))));
        bounds = tt;
      }

  element-item : size ≡ 5 → element_value (part from size bs) ≡ element_item (number_in bs from) (parent_in bs from) (get_or bs (from + 4) 0)
  element-item z =
      let i = h.inside in
      five (part from size bs) (value-long bs from size i ∙ z)
      ∙ ap₂ (λ (a b : ℕ). element_item a b (get_or (part from size bs) 4 0)) (in_two_lem bs from size i 0 from (from + 1) (omega arith) (omega arith) (omega arith))
      (in_two_lem bs from size i 2 (from + 2) (from + 2 + 1) (omega arith) (omega arith) (omega arith))
      ∙ ap (element_item (number_in bs from) (parent_in bs from)) (value-at bs from size i 4 (from + 4) (omega arith) refl)

  module _ (z : size ≡ 5) (number parent e d : ℕ) (n : number ≡ number_in bs from) (p : parent ≡ parent_in bs from) (b : e ≡ get_or bs (from + 4) 0) (level : LevelOf levels c.depth parent d) where
    abbrev test : Bool
    test = (ltb c.number number && ltb number max_nodes) && element_under words levels d e

    judged-element : (last : Bool)
        → later_step (word_types words) bs (state_in levels c) last (element_value (part from size bs))
        ≡ cond test (field_step levels c.rows (c.at + 7) (Some (Element number e d))) wrong
    unfolding later_step
    judged-element last =
        let s = word_types words in
        let st = state_in levels c in
        ap (later_step s bs st last) (element-item z ∙ sym (ap₂ (λ (x y : ℕ). element_item x y e) n p ∙ ap (element_item (number_in bs from) (parent_in bs from)) b))
        ∙ ap (λ (os : List Placed). cond (not (is_empty os) && element_fits s st number os e) (onward (element_row number e (top_row os)) (state (suc c.rows) number false (placed c.rows number e ∷ os))) wrong)
        (sym level.found)
        ∙ ap (λ (t : Bool). cond t (field_step levels c.rows (c.at + 7) (Some (Element number e d))) wrong) (element-test words bs levels (state_in levels c) number d e)

    element-refused : test ≡ false → ElementAs bs words levels c size None
    element-refused t = record { step = λ last. sym (judged-element last ∙ cond_no _ wrong t); bounds = tt }

    element-right : (ltb c.number number && ltb number max_nodes) ≡ true → element_under words levels d e ≡ true → ElementAs bs words levels c size (Some (Element number e d))
    unfolding element_under
    element-right t u =
        let a = and_cases (ltb c.number number) (ltb number max_nodes) (passed t) in
        let x = and_cases (not (eqb d 0)) (held_by words (element (last_element levels d)) (element e) && leb (suc d) max_depth) (passed u) in
        let y = and_cases (held_by words (element (last_element levels d)) (element e)) (leb (suc d) max_depth) x.1 in
        let w = and_cases (ltb e max_declarations) _ y.0 in
        record {
          step = λ last. sym (judged-element last ∙ cond_yes _ wrong (ap₂ ◌&&◌ t u));
          bounds = (record { rises = ltb→lt _ _ a.0; small = ltb→lt _ _ a.1; low = positive d x.0; high = level.within }, leb→le (suc d) max_depth y.1, ltb→lt _ _ w.0, z);
        }

    pub element-numbered : (r : Bool) → r ≡ (ltb c.number number && ltb number max_nodes) → r ≡ false → ElementAs bs words levels c size None
    element-numbered r q t = element-refused (ap (λ (b : Bool). b && element_under words levels d e) (sym q ∙ t))

    pub element-placed : (r : Bool) → r ≡ element_under words levels d e → r ≡ false → ElementAs bs words levels c size None
    element-placed r q t =
        let n = ltb c.number number && ltb number max_nodes in
        element-refused (ap (λ (b : Bool). n && b) (sym q ∙ t) ∙ and-nothing n)

    pub element-unplaced : d ≡ 0 → ElementAs bs words levels c size None
    unfolding element_under
    element-unplaced f =
        let n = ltb c.number number && ltb number max_nodes in
        let held = held_by words (element (last_element levels d)) (element e) && leb (suc d) max_depth in
        element-refused (ap (λ (b : Bool). n && (not b && held)) (eq-eqb d 0 f) ∙ and-nothing n)

    pub element-accepted : (x y : Bool) → x ≡ (ltb c.number number && ltb number max_nodes) → x ≡ true → y ≡ element_under words levels d e → y ≡ true
        → ElementAs bs words levels c size (Some (Element number e d))
    element-accepted x y p t q u = element-right (sym p ∙ t) (sym q ∙ u)

-- ---- a text
module _ (bs words : List ℕ) (levels : List Level) (c : Carried) (size : ℕ) (h : ValuePass bs levels c size) where
  abbrev place : ℕ
  place = c.at + 3

  module _ (n : ℕ) (z : size ≡ n + 4) (number parent d : ℕ) (a : number ≡ number_in bs place) (p : parent ≡ parent_in bs place) where
    text-item : text_value place (part place size bs) ≡ text_item number parent (c.at + 7) n
    text-item =
        let i = h.inside in
        let s : place + 4 ≡ c.at + 7 = omega arith in
        four place n (part place size bs) (value-long bs place size i ∙ z)
        ∙ ap₂ (λ (x y : ℕ). text_item x y (place + 4) n) (in_two_lem bs place size i 0 place (place + 1) (omega arith) (omega arith) (omega arith) ∙ sym a)
        (in_two_lem bs place size i 2 (place + 2) (place + 2 + 1) (omega arith) (omega arith) (omega arith) ∙ sym p)
        ∙ ap (λ (x : ℕ). text_item number parent x n) s

    abbrev bytes_pass : Bool
    bytes_pass = leb 1 n && (leb n max_text_bytes && all_of (λ b. not (is_foreign b)) (part (c.at + 7) n bs))

    abbrev number_pass : Bool
    number_pass = ltb c.number number && ltb number max_nodes

    judged-text : LevelOf levels c.depth parent d → (last : Bool)
        → later_step (word_types words) bs (state_in levels c) last (text_value place (part place size bs))
        ≡ cond (number_pass && (text_under words levels d c.text && bytes_pass)) (field_step levels c.rows (c.at + 7) (Some (Text number d n))) wrong
    unfolding later_step
    judged-text level last =
        let s = word_types words in
        let st = state_in levels c in
        ap (later_step s bs st last) text-item
        ∙ ap (λ (os : List Placed). cond (not (is_empty os) && text_fits s bs st number os (c.at + 7) n) (onward (text_row number (top_element os) (top_row os) (c.at + 7) n n) (state (suc c.rows) number true os)) wrong)
        (sym level.found)
        ∙ ap (λ (t : Bool). cond t (field_step levels c.rows (c.at + 7) (Some (Text number d n))) wrong) (text-test words bs levels (state_in levels c) number d (c.at + 7) n)

    text-refused : LevelOf levels c.depth parent d → (number_pass && (text_under words levels d c.text && bytes_pass)) ≡ false → TextAs bs words levels c size None
    text-refused level t = record { step = λ last. sym (judged-text level last ∙ cond_no _ wrong t); bounds = tt }

    -- whatever its level, bytes that do not pass
    text-misfit : bytes_pass ≡ false → TextAs bs words levels c size None
    unfolding later_step
    text-misfit t =
        record {
          step = λ last.
              sym (ap (later_step (word_types words) bs (state_in levels c) last) text-item
              ∙ cond_no _ wrong (never-fits (open_from parent (levels_in levels c.depth))));
          bounds = tt;
        }
      where
        none : (x a b e : Bool) → (x && (a && (b && (e && false)))) ≡ false
        none false a b e = refl
        none true false b e = refl
        none true true false e = refl
        none true true true false = refl
        none true true true true = refl

        never-fits : (os : List Placed) → (not (is_empty os) && text_fits (word_types words) bs (state_in levels c) number os (c.at + 7) n) ≡ false
        never-fits os =
            ap (λ (b : Bool). not (is_empty os) && (number_pass && (held_by words (element (top_element os)) (text (top_element os)) && (not c.text && b)))) t
            ∙ none (not (is_empty os)) number_pass (held_by words (element (top_element os)) (text (top_element os))) (not c.text)

    text-right : LevelOf levels c.depth parent d → number_pass ≡ true → text_under words levels d c.text ≡ true → bytes_pass ≡ true → TextAs bs words levels c size (Some (Text number d n))
    unfolding text_under
    text-right level t u w =
        let x = and_cases (ltb c.number number) (ltb number max_nodes) (passed t) in
        let y = and_cases (not (eqb d 0)) _ (passed u) in
        let m = and_cases (leb 1 n) (leb n max_text_bytes && all_of (λ b. not (is_foreign b)) (part (c.at + 7) n bs)) (passed w) in
        let k = and_cases (leb n max_text_bytes) _ m.1 in
        record {
          step = λ last. sym (judged-text level last ∙ cond_yes _ wrong (ap₂ ◌&&◌ t (ap₂ ◌&&◌ u w)));
          bounds = (record { rises = ltb→lt _ _ x.0; small = ltb→lt _ _ x.1; low = positive d y.0; high = level.within }, leb→le n max_text_bytes k.0, z);
        }

    pub text-sized : (n < 1) ⊎ (max_text_bytes < n) → TextAs bs words levels c size None
    text-sized (inl l) = text-misfit (ap (λ (b : Bool). b && (leb n max_text_bytes && all_of (λ x. not (is_foreign x)) (part (c.at + 7) n bs))) (lt-leb 1 n l))
    text-sized (inr l) =
        text-misfit (ap (λ (b : Bool). leb 1 n && (b && all_of (λ x. not (is_foreign x)) (part (c.at + 7) n bs))) (lt-leb n max_text_bytes l) ∙ and-nothing (leb 1 n))

    pub text-numbered : LevelOf levels c.depth parent d → (r : Bool) → r ≡ number_pass → r ≡ false → TextAs bs words levels c size None
    text-numbered level r q t = text-refused level (ap (λ (b : Bool). b && (text_under words levels d c.text && bytes_pass)) (sym q ∙ t))

    pub text-placed : LevelOf levels c.depth parent d → (r : Bool) → r ≡ text_under words levels d c.text → r ≡ false → TextAs bs words levels c size None
    text-placed level r q t = text-refused level (ap (λ (b : Bool). number_pass && (b && bytes_pass)) (sym q ∙ t) ∙ and-nothing number_pass)

    pub text-unplaced : LevelOf levels c.depth parent d → d ≡ 0 → TextAs bs words levels c size None
    unfolding text_under
    text-unplaced level f =
        let held = held_by words (element (last_element levels d)) (text (last_element levels d)) && not c.text in
        text-refused level (ap (λ (b : Bool). number_pass && ((not b && held) && bytes_pass)) (eq-eqb d 0 f) ∙ and-nothing number_pass)

    -- the bytes as the part of the extract from the text's start up to its end
    module _ (f : Bool) (found : f ≡ any_of is_foreign (take (place + size - (place + 4)) (drop (place + 4) bs))) where
      text-part : take (place + size - (place + 4)) (drop (place + 4) bs) ≡ part (c.at + 7) n bs
      text-part =
          let s : place + 4 ≡ c.at + 7 = omega arith in
          let l : place + size - (place + 4) ≡ n = omega arith in
          ap₂ (λ (i j : ℕ). take i (drop j bs)) l s

      tested : {t : Bool} → f ≡ t → all_of (λ b. not (is_foreign b)) (part (c.at + 7) n bs) ≡ not t
      tested e = sym (none-foreign (part (c.at + 7) n bs)) ∙ ap not (sym (found ∙ ap (any_of is_foreign) text-part) ∙ e)

      pub text-foreign : f ≡ true → TextAs bs words levels c size None
      text-foreign e =
          text-misfit (ap (λ (b : Bool). leb 1 n && (leb n max_text_bytes && b)) (tested e) ∙ ap (λ (b : Bool). leb 1 n && b) (and-nothing (leb n max_text_bytes)) ∙ and-nothing (leb 1 n))

      pub text-accepted : LevelOf levels c.depth parent d → (r t : Bool) → r ≡ number_pass → r ≡ true → t ≡ text_under words levels d c.text → t ≡ true
          → 1 ≤ n → n ≤ max_text_bytes → f ≡ false → TextAs bs words levels c size (Some (Text number d n))
      text-accepted level r t q v u w low high e =
          text-right level (sym q ∙ v) (sym u ∙ w) (ap₂ ◌&&◌ (le-leb 1 n low) (ap₂ ◌&&◌ (le-leb n max_text_bytes high) (tested e)))

  pub text-short : size < 4 → TextAs bs words levels c size None
  unfolding later_step
  text-short l =
      record {
        step = λ last. sym (ap (later_step (word_types words) bs (state_in levels c) last)
            (no_text place (part place size bs) (omega (arith, value-long bs place size h.inside))));
        bounds = tt;
      }

-- ---- the levels that stay open
pub value-level : (bs : List ℕ) (levels : List Level) (c : Carried) (size : ℕ) → ValuePass bs levels c size → (parent d : ℕ) → LevelOf levels c.depth parent d → LevelPass levels d
value-level bs levels c size h parent d level =
    record { shallow = omega (arith, level.within, h.shallow); known = λ i l. h.known i (omega (arith, level.within)) }

-- a text of no bytes, or of too many
module _ (bs words : List ℕ) (levels : List Level) (c : Carried) (size : ℕ) (h : ValuePass bs levels c size) where
  pub text-under-five : size < 5 → TextAs bs words levels c size None
  text-under-five l = ⊎_elim (λ x. text-short bs words levels c size h x)
      (λ x. text-sized bs words levels c size h 0 (omega arith) (number_in bs (c.at + 3)) (parent_in bs (c.at + 3)) 0 refl refl (inl (omega arith))) (below-or-past size 4)

  pub text-over : max_text_bytes + 4 < size → TextAs bs words levels c size None
  text-over l = text-sized bs words levels c size h (size - 4) (omega arith) (number_in bs (c.at + 3)) (parent_in bs (c.at + 3)) 0 refl refl (inr (omega arith))
