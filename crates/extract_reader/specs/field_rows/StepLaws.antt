-- The row of a field, and the levels after it, are those of the step.
use Rattle.std.specs.Prelude.{true, false, List, ◌∷◌, ◌≡◌, refl, ℕ, suc, ◌+◌, ◌-◌, ◌≤◌, Option, Some, None, Ok, Err, length}
use Rattle.std.proofs.Common.{⊎_elim, sym, ap, ap₂, subst, ◌∙◌, add-one, arith, length-set}
use Rattle.extract_reader.specs.declared.field_rows.FieldRow.{FieldRow}
use Rattle.extract_reader.specs.declared.field_values.Field.{Field}
use Rattle.extract_reader.specs.declared.field_values.Field.TheVariants.{Count, Element, Text}
use Rattle.extract_reader.specs.declared.levels.Level.{Level}
use Rattle.extract_reader.specs.declared.reading.Carried.{Carried}
use Rattle.extract_reader.specs.declared.reading.Reader.{Reader}
use Rattle.extract_reader.specs.field_rows.Steps.{row_cells, carried_on, ElementRead, TextRead, ElementPlace, TextPlace, Ready, StepAs, Steps, wrong-field, last-field, row_field}
use Rattle.extract_reader.specs.field_values.Fields.{state_in}
use Rattle.extract_reader.specs.fields.Fields.{FieldAs}
use Rattle.extract_reader.specs.levels.LevelLaws.{top-row, top-element, levels-opened, known-opened, bytes-opened}
use Rattle.extract_reader.specs.levels.Levels.{level, levels_in, last_element, Known, InBytes}
use Rattle.extract_reader.specs.reading.Readers.{SameSource, BitWidths}
use Rattle.extract_spec.specs.Reading.{Placed, top_row, top_element}
use Rattle.projection_laws.specs.Opens.{placed}
use Rattle.projection_laws.specs.extract_passes.Steps.{state, onward, past_field}
use Rattle.table_spec.specs.Rows.{Cells, element_row, text_row}
use Rattle.text.specs.declared.refusals.Reason.TheVariants.{BadExtract}
use Rattle.text.specs.refusals.Refusals.{refusal}
use Rattle.text_laws.specs.Tests.{never}
use Rattle.text_spec.specs.Limits.{max_declarations}

-- ---- what each kind of field does
module _ (old : Reader) (h : Ready old.extract.now old.levels old.carried) (r : Option Field)
    (a : FieldAs old.extract.now old.words.now old.levels old.carried r) where
  abbrev bs : List ℕ
  bs = old.extract.now

  abbrev words : List ℕ
  words = old.words.now

  abbrev levels : List Level
  levels = old.levels

  abbrev c : Carried
  c = old.carried

  same-source : SameSource old old
  same-source = record { extract = refl; words = refl }

  pub steps-wrong : r ≡ None → Steps old old (Err (refusal BadExtract 0))
  steps-wrong e = record { source = same-source; step = wrong-field (sym (subst (FieldAs bs words levels c) e a).step) refl refl }

  -- with any levels
  pub steps-last : (new : Reader) → SameSource old new → new.carried ≡ c → r ≡ Some Count → Steps old new (Ok None)
  steps-last new same kept e =
      let f = subst (FieldAs bs words levels c) e a in
      record { source = same; step = last-field (sym f.step) (omega (arith, ⊎_elim (λ w. never (cc)) (λ l. l) f.inside)) kept }

  pub steps-ended : r ≡ Some Count → Steps old old (Ok None)
  steps-ended e = steps-last old same-source refl e

  module _ (number e d : ℕ) (is : r ≡ Some (Element number e d)) where
    element-field : FieldAs bs words levels c (Some (Element number e d))
    element-field = subst (FieldAs bs words levels c) is a

    pub element_place : ElementPlace c number d
    element_place =
        let b = element-field.bounds in
        record {
          low = b.0.low;
          high = b.1;
          row-short = omega (arith, h.bounds.few, h.bounds.small);
          next = omega (arith, h.bounds.short, h.bounds.few, h.bounds.small);
        }

    module _ (new : Reader) (x : FieldRow) (made : ElementRead old number e d new x) where
      abbrev next : Carried
      next = carried_on (c.at + 8) (c.rows + 1) number false (d + 1)

      pub element-state : state (suc c.rows) number false (placed c.rows number e ∷ levels_in levels d) ≡ state_in new.levels next
      element-state =
          let b = element_place in
          ap₂ (λ (n : ℕ) (l : List Placed). state n number false l) (sym (add-one c.rows))
          (sym (ap (λ (l : List Level). levels_in l (d + 1)) made.levels ∙ levels-opened levels d c.rows number e (omega (arith, b.high, h.long))))

      pub steps-element : Steps old new (Ok (Some x))
      steps-element =
          let b = element-field.bounds in
          let past : past_field bs c.at ≡ c.at + 8 = omega (arith, b.3) in
          let inside : c.at + 8 ≤ length bs = omega (arith, ⊎_elim (λ w. never (cc)) (λ l. l) element-field.inside, past) in
          let row = element_row number e (top_row (levels_in levels d)) in
          record {
            source = made.source;
            step =
                subst (λ (n : Carried). StepAs bs words levels c new.levels n (Ok (Some x))) (sym made.carried)
                (row_field {r = x} row (sym element-field.step ∙ ap (onward row) element-state)
                (ap row_cells made.row ∙ ap (λ (p : ℕ). cells number e p 0 0) (sym (top-row levels d b.0.low))) refl past (omega arith)
                (record {
                  field-pass = record {
                    shallow = omega (arith, b.1);
                    known = subst (λ (l : List Level). Known l (d + 1)) (sym made.levels)
                        (known-opened levels d c.rows number e (omega (arith, b.1, h.long)) (λ i l. h.field-pass.known i (omega (arith, b.0.high))) b.2);
                    inside = inside;
                  };
                  bounds = record { small = b.0.small; few = omega (arith, h.bounds.few, b.0.rises); short = omega (arith, h.bounds.short) };
                  long = ap length made.levels ∙ length-set levels d (level c.rows number e) ∙ h.long;
                }));
          }
        where
          cells : ℕ → ℕ → ℕ → ℕ → ℕ → Cells
          cells x n p s z = record { number = x; name = n; parent = p; start = s; size = z; decoded = z }

      pub widths-element : BitWidths old → BitWidths new
      widths-element w =
          let b = element-field.bounds in
          record {
            number = omega (arith, b.0.small, ap (λ (n : Carried). n.number) made.carried);
            elements = subst InBytes (sym made.levels)
                (bytes-opened levels d c.rows number e (omega (arith, b.1, h.long)) w.elements (omega (arith, b.2)));
          }

  module _ (number d size : ℕ) (is : r ≡ Some (Text number d size)) where
    text-field : FieldAs bs words levels c (Some (Text number d size))
    text-field = subst (FieldAs bs words levels c) is a

    pub text-place : TextPlace levels c number d size
    text-place =
        let b = text-field.bounds in
        record {
          low = b.0.low;
          high = omega (arith, b.0.high, h.field-pass.shallow);
          element-small = h.field-pass.known (d - 1) (omega (arith, b.0.low, b.0.high));
          row-short = omega (arith, h.bounds.few, h.bounds.small);
          size-short = omega (arith, b.1);
          next = omega (arith, h.bounds.short, h.bounds.few, h.bounds.small, b.1);
        }

    pub steps-text : (new : Reader) (x : FieldRow) → TextRead old number d size new x → Steps old new (Ok (Some x))
    steps-text new x made =
        let b = text-field.bounds in
        let past : past_field bs c.at ≡ c.at + 7 + size = omega (arith, b.2) in
        let inside : c.at + 7 + size ≤ length bs = omega (arith, ⊎_elim (λ w. never (cc)) (λ l. l) text-field.inside, past) in
        let row = text_row number (top_element (levels_in levels d)) (top_row (levels_in levels d)) (c.at + 7) size size in
        let code : last_element levels d + max_declarations ≡ max_declarations + top_element (levels_in levels d) = omega (arith, top-element levels d b.0.low) in
        record {
          source = made.source;
          step =
              subst (λ (l : List Level). StepAs bs words levels c l new.carried (Ok (Some x))) (sym made.levels)
              (subst (λ (n : Carried). StepAs bs words levels c levels n (Ok (Some x))) (sym made.carried)
              (row_field {r = x} row (sym text-field.step ∙ ap (λ (n : ℕ). onward row (state n number true (levels_in levels d))) (sym (add-one c.rows)))
              (ap row_cells made.row ∙ ap₂ (λ (n p : ℕ). cells number n p (c.at + 7) size) code (sym (top-row levels d b.0.low))) refl past (omega arith)
              (record {
                field-pass = record {
                  shallow = omega (arith, b.0.high, h.field-pass.shallow);
                  known = λ i l. h.field-pass.known i (omega (arith, b.0.high));
                  inside = inside;
                };
                bounds = record { small = b.0.small; few = omega (arith, h.bounds.few, b.0.rises); short = omega (arith, h.bounds.short, b.1) };
                long = h.long;
              })));
        }
      where
        cells : ℕ → ℕ → ℕ → ℕ → ℕ → Cells
        cells x n p s z = record { number = x; name = n; parent = p; start = s; size = z; decoded = z }

    pub widths-text : (new : Reader) (x : FieldRow) → TextRead old number d size new x → BitWidths old → BitWidths new
    widths-text new x made w =
        let b = text-field.bounds in
        record {
          number = omega (arith, b.0.small, ap (λ (n : Carried). n.number) made.carried);
          elements = subst InBytes (sym made.levels) w.elements;
        }
