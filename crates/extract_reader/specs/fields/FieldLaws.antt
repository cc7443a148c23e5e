-- A field by its tag and length is the item that stands there.
use Rattle.std.specs.Prelude.{Bool, cond, ◌&&◌, List, [], ◌∷◌, ◌≡◌, ℕ, ◌+◌, ◌-◌, ◌<◌, ◌≤◌, Option, Some, None, T, length, get_or, drop}
use Rattle.std.proofs.Math.Bool.{true, false}
use Rattle.std.specs.Bool.{then_some}
use Rattle.std.proofs.Common.{inl, subst, ◌∙◌, length-take, length-drop}
use Rattle.std.proofs.Math.Logic.{inr}
use Rattle.std.proofs.Math.Path.{refl, sym, ap, ap₂}
use native.Mathlib.Omega.{arith}
use borrow.Author.Tests.{le-leb, lt-leb, leb-false, eq-eqb, ne_eqb, eqb-true}
use Rattle.std.proofs.Math.Dec.{eqb, leb, leb→le}
use Rattle.extract_reader.specs.declared.field_values.Field.{Field}
use Rattle.extract_reader.specs.declared.field_values.Field.TheVariants.{Count}
use Rattle.extract_reader.specs.declared.levels.Level.{Level}
use Rattle.extract_reader.specs.declared.reading.Carried.{Carried}
use Rattle.extract_reader.specs.field_ends.Ends.{is_root, is_count}
use Rattle.extract_reader.specs.field_tests.Tests.{word_types}
use Rattle.extract_reader.specs.field_values.Fields.{state_in, Bounds, ValuePass, ElementAs, TextAs}
use Rattle.extract_reader.specs.fields.Fields.{CountAs, FieldPass, FieldAs, first_of, FirstAs}
use Rattle.extract_spec.specs.Fields.{element_tag, text_tag, count_tag}
use Rattle.extract_spec.specs.Reading.{Item, no_item, in_two, element_value, text_value, count_value, item_of}
use Rattle.projection_laws.specs.Opens.{placed}
use Rattle.projection_laws.specs.extract_passes.Places.{no_field, step-wrong, step_right}
use Rattle.projection_laws.specs.extract_passes.Steps.{State, state, Step, wrong, ended, onward, later_step, root_step, size_at, past_field, has_field, item_at, is_last, step_at, first_step}
use Rattle.schema_spec.specs.Names.{Name, element, same_name}
use Rattle.schema_spec.specs.Types.{Types}
use Rattle.table_spec.specs.Rows.{element_row}
use Rattle.text_laws.specs.Tests.{never, passed, and_cases, cond_yes, cond_no}
use Rattle.text_spec.specs.Lists.{part}

-- ---- whether a field stands at a place
module _ (bs : List ℕ) (k : ℕ) (inside : k ≤ length bs) where
  pub field-short : length bs - k < 3 → false ≡ has_field bs k
  field-short l = sym (no_field bs k (omega arith))

  pub field-measured : (size : ℕ) → 3 ≤ length bs - k → size ≡ in_two (get_or bs (k + 1) 0) (get_or bs (k + 1 + 1) 0) → leb size (length bs - (k + 3)) ≡ has_field bs k
  unfolding has_field
  field-measured size l e =
      let two : k + 1 + 1 ≡ k + 2 = omega arith in
      let q : size ≡ size_at bs k = e ∙ ap (λ (i : ℕ). in_two (get_or bs (k + 1) 0) (get_or bs i 0)) two in
      ap (λ (n : ℕ). leb n (length bs - (k + 3))) q ∙ same (size_at bs k) ∙ sym (ap (λ (b : Bool). b && leb (past_field bs k) (length bs)) (le-leb (k + 3) (length bs) (omega arith)))
    where
      same : (n : ℕ) → leb n (length bs - (k + 3)) ≡ leb (k + 3 + n) (length bs)
      same n = pick (leb n (length bs - (k + 3))) refl
        where
          pick : (b : Bool) → leb n (length bs - (k + 3)) ≡ b → b ≡ leb (k + 3 + n) (length bs)
          pick true h = sym (le-leb (k + 3 + n) (length bs) (omega (arith, leb→le n (length bs - (k + 3)) (passed h))))
          pick false h = sym (lt-leb (k + 3 + n) (length bs) (omega (arith, leb-false n (length bs - (k + 3)) h)))

-- a field that stands there lies in the extract
module _ (bs : List ℕ) (k : ℕ) (stands : has_field bs k ≡ true) where
  three : k + 3 ≤ length bs
  unfolding has_field
  three = leb→le _ _ (and_cases (leb (k + 3) (length bs)) _ (passed stands)).0

  past : past_field bs k ≤ length bs
  unfolding has_field
  past = leb→le _ _ (and_cases (leb (k + 3) (length bs)) _ (passed stands)).1

  pub length-inside : k + 1 + 1 < length bs
  length-inside = omega (arith, three)

  module _ (size : ℕ) (measured : size ≡ in_two (get_or bs (k + 1) 0) (get_or bs (k + 1 + 1) 0)) where
    size_is : size ≡ size_at bs k
    size_is = let e : k + 1 + 1 ≡ k + 2 = omega arith in measured ∙ ap (λ (i : ℕ). in_two (get_or bs (k + 1) 0) (get_or bs i 0)) e

    pub value-inside : k + 3 + size ≤ length bs
    value-inside = omega (arith, size_is, past)

    item_by : (tag : ℕ) → get_or bs k 0 ≡ tag → item_at bs k ≡ item_of tag (k + 3) (part (k + 3) size bs)
    unfolding item_at
    item_by tag e = ap₂ (λ (t n : ℕ). item_of t (k + 3) (part (k + 3) n bs)) e (sym size_is)

    item-unknown : (get_or bs k 0 ≡ element_tag → ⊥) → (get_or bs k 0 ≡ text_tag → ⊥) → (get_or bs k 0 ≡ count_tag → ⊥) → item_at bs k ≡ no_item
    item-unknown e t n =
        let tag = get_or bs k 0 in
        let v = part (k + 3) size bs in
        item_by tag refl
        ∙ ap (λ (b : Bool). cond b (element_value v) (cond (eqb tag text_tag) (text_value (k + 3) v) (cond (eqb tag count_tag) (count_value v) no_item))) (ne_eqb tag element_tag e)
        ∙ ap (λ (b : Bool). cond b (text_value (k + 3) v) (cond (eqb tag count_tag) (count_value v) no_item)) (ne_eqb tag text_tag t)
        ∙ ap (λ (b : Bool). cond b (count_value v) no_item) (ne_eqb tag count_tag n)

    last-by : eqb (k + 3 + size) (length bs) ≡ is_last bs k
    last-by = ap (λ (n : ℕ). eqb (k + 3 + n) (length bs)) size_is

-- ---- a count
count-step : (s : Types) (bs : List ℕ) (st : State) (last : Bool) (v : List ℕ) → later_step s bs st last (count_value v) ≡ cond (is_count st.rows last (count_value v)) ended wrong
unfolding later_step
count-step s bs st last [] = refl
count-step s bs st last (a ∷ []) = refl
count-step s bs st last (a ∷ b ∷ []) = refl
count-step s bs st last (a ∷ b ∷ c ∷ v) = refl

module _ (bs : List ℕ) (c : Carried) (size : ℕ) where
  abbrev counted : Bool
  counted = is_count c.rows (eqb (c.at + 3 + size) (length bs)) (count_value (part (c.at + 3) size bs))

  count-field-by : (b : Bool) → counted ≡ b → CountAs bs c size (then_some b Count)
  count-field-by true e =
      record { step = λ words levels. sym (count-step (word_types words) bs (state_in levels c) _ (part (c.at + 3) size bs) ∙ cond_yes ended wrong e); bounds = tt }
  count-field-by false e =
      record { step = λ words levels. sym (count-step (word_types words) bs (state_in levels c) _ (part (c.at + 3) size bs) ∙ cond_no ended wrong e); bounds = tt }

  pub count-field : (b : Bool) → b ≡ counted → (r : Option Field) → r ≡ then_some b Count → CountAs bs c size r
  count-field b e r q = subst (CountAs bs c size) (sym q) (count-field-by b (sym e))

-- ---- a later field
pub value-pass : (bs : List ℕ) (levels : List Level) (c : Carried) → FieldPass bs levels c → has_field bs c.at ≡ true → (size : ℕ) → size ≡ in_two (get_or bs (c.at + 1) 0) (get_or bs (c.at + 1 + 1) 0)
    → ValuePass bs levels c size
value-pass bs levels c h stands size measured = record { shallow = h.shallow; known = h.known; inside = value-inside bs c.at stands size measured }

module _ (bs words : List ℕ) (levels : List Level) (c : Carried) (h : FieldPass bs levels c) where
  pub field-none : has_field bs c.at ≡ false → FieldAs bs words levels c None
  field-none e = record { step = sym (step-wrong (word_types words) bs c.at (state_in levels c) e); bounds = tt; inside = inl refl }

  module _ (stands : has_field bs c.at ≡ true) (size : ℕ) (measured : size ≡ in_two (get_or bs (c.at + 1) 0) (get_or bs (c.at + 1 + 1) 0)) where
    step_by : (i : Item) → item_at bs c.at ≡ i → step_at (word_types words) bs c.at (state_in levels c) ≡ later_step (word_types words) bs (state_in levels c) (is_last bs c.at) i
    step_by i e = step_right (word_types words) bs c.at (state_in levels c) stands ∙ ap (later_step (word_types words) bs (state_in levels c) (is_last bs c.at)) e

    measured-bounds : (r : Option Field) → Bounds c size r → Bounds c (size_at bs c.at) r
    measured-bounds r b = subst (λ (n : ℕ). Bounds c n r) (size_is bs c.at stands size measured) b

    pub field-element : (r : Option Field) → get_or bs c.at 0 ≡ element_tag → ElementAs bs words levels c size r → FieldAs bs words levels c r
    field-element r t a =
        record {
          step = a.step (is_last bs c.at) ∙ sym (step_by (element_value (part (c.at + 3) size bs)) (item_by bs c.at stands size measured element_tag t));
          bounds = measured-bounds r a.bounds;
          inside = inr (past bs c.at stands);
        }

    pub field-text : (r : Option Field) → get_or bs c.at 0 ≡ text_tag → TextAs bs words levels c size r → FieldAs bs words levels c r
    field-text r t a =
        record {
          step = a.step (is_last bs c.at) ∙ sym (step_by (text_value (c.at + 3) (part (c.at + 3) size bs)) (item_by bs c.at stands size measured text_tag t));
          bounds = measured-bounds r a.bounds;
          inside = inr (past bs c.at stands);
        }

    pub field-count : (r : Option Field) → get_or bs c.at 0 ≡ count_tag → CountAs bs c size r → FieldAs bs words levels c r
    field-count r t a =
        record {
          step = a.step words levels
              ∙ ap (λ (b : Bool). later_step (word_types words) bs (state_in levels c) b (count_value (part (c.at + 3) size bs))) (last-by bs c.at stands size measured)
              ∙ sym (step_by (count_value (part (c.at + 3) size bs)) (item_by bs c.at stands size measured count_tag t));
          bounds = measured-bounds r a.bounds;
          inside = inr (past bs c.at stands);
        }

    pub field-unknown : (get_or bs c.at 0 ≡ element_tag → ⊥) → (get_or bs c.at 0 ≡ text_tag → ⊥) → (get_or bs c.at 0 ≡ count_tag → ⊥) → FieldAs bs words levels c None
    unfolding later_step
    field-unknown e t n =
        record { step = sym (step_by no_item (item-unknown bs c.at stands size measured e t n)); bounds = tt; inside = inr (past bs c.at stands) }

-- ---- the first field
root-number : (n : Name) (e : ℕ) → n ≡ element 0 → same_name (element e) n ≡ eqb e 0
root-number n e q = ap (same_name (element e)) q

root-step : (s : Types) → s.root ≡ element 0 → (last : Bool) (v : List ℕ) → root_step s last (element_value v) ≡ cond (is_root (element_value v)) (first_of (Some true)) wrong
unfolding root_step
root-step s q last [] = refl
root-step s q last (a ∷ []) = refl
root-step s q last (a ∷ b ∷ []) = refl
root-step s q last (a ∷ b ∷ c ∷ []) = refl
root-step s q last (a ∷ b ∷ c ∷ d ∷ []) = refl
root-step s q last (a ∷ b ∷ c ∷ d ∷ e ∷ []) =
    ap (λ (x : Bool). cond (eqb (in_two c d) 0 && (eqb (in_two a b) 0 && x)) (rooted (in_two a b) e) wrong) (root-number s.root e q)
    ∙ zeros (in_two c d) (in_two a b) e (eqb (in_two c d) 0) (eqb (in_two a b) 0) (eqb e 0) refl refl
  where
    rooted : ℕ → ℕ → Step
    rooted number e = onward (element_row number e 0) (state 1 number false (placed 0 number e ∷ []))

    zeros : (parent number e : ℕ) (x y z : Bool) → eqb number 0 ≡ y → eqb e 0 ≡ z → cond (x && (y && z)) (rooted number e) wrong ≡ cond (x && (y && z)) (rooted 0 0) wrong
    zeros parent number e true true true p r = ap₂ rooted (eqb-true number 0 p) (eqb-true e 0 r)
    zeros parent number e true true false p r = refl
    zeros parent number e true false z p r = refl
    zeros parent number e false y z p r = refl
root-step s q last (a ∷ b ∷ c ∷ d ∷ e ∷ f ∷ v) = refl

root-count : (s : Types) (last : Bool) (v : List ℕ) → root_step s last (count_value v) ≡ cond (is_count 0 last (count_value v)) ended wrong
unfolding root_step
root-count s last [] = refl
root-count s last (a ∷ []) = refl
root-count s last (a ∷ b ∷ []) = refl
root-count s last (a ∷ b ∷ c ∷ v) = refl

root-text : (s : Types) (last : Bool) (v : List ℕ) → root_step s last (text_value 3 v) ≡ wrong
unfolding root_step
root-text s last [] = refl
root-text s last (a ∷ []) = refl
root-text s last (a ∷ b ∷ []) = refl
root-text s last (a ∷ b ∷ c ∷ []) = refl
root-text s last (a ∷ b ∷ c ∷ d ∷ v) = refl

-- the root's value has five bytes
root-five : (v : List ℕ) → T (is_root (element_value v)) → length v ≡ 5
root-five [] t = absurd t
root-five (a ∷ []) t = absurd t
root-five (a ∷ b ∷ []) t = absurd t
root-five (a ∷ b ∷ c ∷ []) t = absurd t
root-five (a ∷ b ∷ c ∷ d ∷ []) t = absurd t
root-five (a ∷ b ∷ c ∷ d ∷ e ∷ []) t = refl
root-five (a ∷ b ∷ c ∷ d ∷ e ∷ f ∷ v) t = absurd t

module _ (bs : List ℕ) where
  wrong_first : ((s : Types) → s.root ≡ element 0 → first_step s bs ≡ wrong) → FirstAs bs None
  wrong_first f = record { step = f; past = λ e. never (cc); inside = λ e. never (cc) }

  pub first-none : has_field bs 0 ≡ false → FirstAs bs None
  unfolding first_step
  first-none e = wrong_first (λ s q. cond_no _ wrong e)

  module _ (stands : has_field bs 0 ≡ true) (size : ℕ) (measured : size ≡ in_two (get_or bs 1 0) (get_or bs 2 0)) where
    first_by : (s : Types) (i : Item) → item_at bs 0 ≡ i → first_step s bs ≡ root_step s (is_last bs 0) i
    unfolding first_step
    first_by s i e = cond_yes _ wrong stands ∙ ap (root_step s (is_last bs 0)) e

    module _ (tagged : get_or bs 0 0 ≡ element_tag) where
      pub first-root : is_root (element_value (part 3 size bs)) ≡ true → FirstAs bs (Some true)
      first-root e =
          let five : size ≡ 5 = omega (arith, root-five (part 3 size bs) (passed e), length-take size (drop 3 bs), length-drop 3 bs, value-inside bs 0 stands size measured) in
          record {
            step = λ s q. first_by s (element_value (part 3 size bs)) (item_by bs 0 stands size measured element_tag tagged) ∙ root-step s q (is_last bs 0) (part 3 size bs) ∙ cond_yes _ wrong e;
            past = λ q. omega (arith, size_is bs 0 stands size measured);
            inside = λ q. omega (arith, value-inside bs 0 stands size measured);
          }

      pub first-other : is_root (element_value (part 3 size bs)) ≡ false → FirstAs bs None
      first-other e =
          wrong_first (λ s q. first_by s (element_value (part 3 size bs)) (item_by bs 0 stands size measured element_tag tagged) ∙ root-step s q (is_last bs 0) (part 3 size bs) ∙ cond_no _ wrong e)

    module _ (tagged : get_or bs 0 0 ≡ count_tag) where
      counting : (s : Types) (b : Bool) → is_count 0 (eqb (3 + size) (length bs)) (count_value (part 3 size bs)) ≡ b → first_step s bs ≡ cond b ended wrong
      counting s b e =
          first_by s (count_value (part 3 size bs)) (item_by bs 0 stands size measured count_tag tagged)
          ∙ ap (λ (l : Bool). root_step s l (count_value (part 3 size bs))) (sym (last-by bs 0 stands size measured))
          ∙ root-count s (eqb (3 + size) (length bs)) (part 3 size bs)
          ∙ ap (λ (x : Bool). cond x ended wrong) e

      pub first_ended : is_count 0 (eqb (3 + size) (length bs)) (count_value (part 3 size bs)) ≡ true → FirstAs bs (Some false)
      first_ended e = record { step = λ s q. counting s true e; past = λ q. never (cc); inside = λ q. never (cc) }

      pub first-uncounted : is_count 0 (eqb (3 + size) (length bs)) (count_value (part 3 size bs)) ≡ false → FirstAs bs None
      first-uncounted e = wrong_first (λ s q. counting s false e)

    pub first-of-root : get_or bs 0 0 ≡ element_tag → (b : Bool) → b ≡ is_root (element_value (part 3 size bs)) → (r : Option Bool) → r ≡ then_some b true → FirstAs bs r
    first-of-root t b e r q = subst (FirstAs bs) (sym q) (by b (sym e))
      where
        by : (x : Bool) → is_root (element_value (part 3 size bs)) ≡ x → FirstAs bs (then_some x true)
        by true f = first-root t f
        by false f = first-other t f

    pub first-of-count : get_or bs 0 0 ≡ count_tag → (b : Bool) → b ≡ is_count 0 (eqb (3 + size) (length bs)) (count_value (part 3 size bs)) → (r : Option Bool)
        → r ≡ then_some b false → FirstAs bs r
    first-of-count t b e r q = subst (FirstAs bs) (sym q) (by b (sym e))
      where
        by : (x : Bool) → is_count 0 (eqb (3 + size) (length bs)) (count_value (part 3 size bs)) ≡ x → FirstAs bs (then_some x false)
        by true f = first_ended t f
        by false f = first-uncounted t f

    pub first-tagged : (get_or bs 0 0 ≡ element_tag → ⊥) → (get_or bs 0 0 ≡ count_tag → ⊥) → FirstAs bs None
    unfolding root_step
    first-tagged e n = wrong_first (λ s q. pick s (eqb (get_or bs 0 0) text_tag) refl)
      where
        pick : (s : Types) (b : Bool) → eqb (get_or bs 0 0) text_tag ≡ b → first_step s bs ≡ wrong
        pick s true t =
            first_by s (text_value 3 (part 3 size bs)) (item_by bs 0 stands size measured text_tag (eqb-true (get_or bs 0 0) text_tag t)) ∙ root-text s (is_last bs 0) (part 3 size bs)
        pick s false t =
            first_by s no_item (item-unknown bs 0 stands size measured e (λ w. let z : true ≡ false = sym (eq-eqb (get_or bs 0 0) text_tag w) ∙ t in never (cc)) n)
