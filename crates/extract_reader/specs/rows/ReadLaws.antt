-- One field more.
use Rattle.std.specs.Prelude.{Bool, true, false, cond, List, [], ◌∷◌, ◌++◌, ◌≡◌, Some, None, Ok, Err, ltb, length, set}
use Rattle.std.proofs.Math.Option.{Option, none, some}
use Rattle.std.proofs.Math.Path.{refl, ap}
use Rattle.std.proofs.Common.{sym, ap₂, subst, ◌∙◌, length-append, length-set}
use Prim.Native.Nat.{ℕ, zero, suc, ◌-◌, ◌<◌}
use native.Mathlib.Omega.{arith}
use Rattle.cells.specs.columns.ColumnLaws.{columns-more, equal-more}
use Rattle.cells.specs.columns.Columns.{EqualColumns, put, with_row}
use Rattle.cells.specs.columns.Lent.{lent_columns, Left}
use Rattle.cells.specs.declared.columns.ColumnsMut.{ColumnsMut}
use Rattle.extract_reader.specs.declared.field_rows.FieldRow.{FieldRow}
use Rattle.extract_reader.specs.declared.reading.Carried.{Carried}
use Rattle.extract_reader.specs.declared.reading.Reader.{Reader}
use Rattle.extract_reader.specs.field_rows.Steps.{row_cells, StepAs, Steps, wrong-field, last-field, row_field}
use Rattle.extract_reader.specs.field_tests.Tests.{word_types}
use Rattle.extract_reader.specs.field_values.Fields.{state_in}
use Rattle.extract_reader.specs.rows.Reads.{prepended, Hold, NoRows, AllRead, OneRead, ReadsNext, ReadOn}
use Rattle.extract_spec.specs.Reading.{cons_row}
use Rattle.projection_laws.specs.extract_passes.Steps.{State, Step, wrong, ended, onward, continued, past_field, step_at, rows_from}
use Rattle.schema_spec.specs.Types.{Types}
use Rattle.table_spec.specs.Columns.{Columns, Sizes, sizes_of, columns_of}
use Rattle.table_spec.specs.Rows.{Row, Cells, cells_of}
use Rattle.text.specs.declared.refusals.Refusal.{Refusal}
use Rattle.text_laws.specs.Cells.{padded-length}

-- ---- rows before an answer
prepended-next : (done : List Row) (r : Row) (o : Option (List Row)) → prepended (done ++ (r ∷ [])) o ≡ prepended done (cons_row r o)
prepended-next [] r o = refl
prepended-next (q ∷ done) r o = ap (cons_row q) (prepended-next done r o)

prepended-none : (done : List Row) → prepended done none ≡ none
prepended-none [] = refl
prepended-none (q ∷ done) = ap (cons_row q) (prepended-none done)

prepended-all : (done : List Row) → prepended done (some []) ≡ some done
prepended-all [] = refl
prepended-all (q ∷ done) = ap (cons_row q) (prepended-all done)

-- ---- a row more in the columns
put-long : (column : List ℕ) (r x : ℕ) → length (put column r x) ≡ length column
put-long column r x = pick (ltb r (length column))
  where
    pick : (b : Bool) → length (cond b (set column r x) column) ≡ length column
    pick true = length-set column r x
    pick false = refl

sizes-more : (c : Columns) (r : ℕ) (x : Cells) → sizes_of (with_row c r x) ≡ sizes_of c
sizes-more c r x =
    rw (put-long c.numbers r x.number, put-long c.names r x.name, put-long c.parents r x.parent, put-long c.starts r x.start, put-long c.lengths r x.size, put-long c.decoded r x.decoded)

pub columns-sizes : (z : Sizes) (rows : List Row) → sizes_of (columns_of z rows) ≡ z
columns-sizes z rows = rw (padded-length z.numbers _, padded-length z.names _, padded-length z.parents _, padded-length z.starts _, padded-length z.lengths _, padded-length z.decoded _)

pub hold-by : (cols : Columns) (z : Sizes) (rows : List Row) → cols ≡ columns_of z rows → Hold cols rows
hold-by cols z rows e = e ∙ ap (λ (y : Sizes). columns_of y rows) (sym (ap sizes_of e ∙ columns-sizes z rows))

hold-more : (cols cols' : Columns) (done : List Row) (n : ℕ) (x : Cells) (row : Row) → Hold cols done → cols' ≡ with_row cols n x → n ≡ length done → x ≡ cells_of row
    → Hold cols' (done ++ (row ∷ []))
hold-more cols cols' done n x row h e l q =
    hold-by cols' (sizes_of cols) (done ++ (row ∷ []))
    (e ∙ ap₂ (λ (k : ℕ) (y : Cells). with_row cols k y) l q ∙ ap (λ (d : Columns). with_row d (length done) (cells_of row)) h ∙ columns-more (sizes_of cols) done row)

-- ---- the rest by the step of a field
module _ (s : Types) (bs : List ℕ) (k : ℕ) (st : State) where
  rest-wrong : (fuel : ℕ) → step_at s bs k st ≡ wrong → rows_from s bs fuel k st ≡ none
  unfolding rows_from
  rest-wrong zero e = refl
  rest-wrong (suc fuel) e = ap (λ (x : Step). continued x (rows_from s bs fuel (past_field bs k))) e

  rest_ended : (fuel : ℕ) → 0 < fuel → step_at s bs k st ≡ ended → rows_from s bs fuel k st ≡ some []
  unfolding rows_from
  rest_ended zero l e = absurd (omega arith)
  rest_ended (suc fuel) l e = ap (λ (x : Step). continued x (rows_from s bs fuel (past_field bs k))) e

  rest-onward : (fuel : ℕ) → 0 < fuel → (r : Row) (t : State) → step_at s bs k st ≡ onward r t → rows_from s bs fuel k st ≡ cons_row r (rows_from s bs (fuel - 1) (past_field bs k) t)
  unfolding rows_from
  rest-onward zero l r t e = absurd (omega arith)
  rest-onward (suc fuel) l r t e =
      let z : fuel ≡ suc fuel - 1 = omega arith in
      ap (λ (x : Step). continued x (rows_from s bs fuel (past_field bs k))) e ∙ ap (λ (n : ℕ). cons_row r (rows_from s bs n (past_field bs k) t)) z

-- ---- what a field leaves
module _ (old : Reader) (t : ColumnsMut) (h : ReadsNext old t) (new : Reader) where
  abbrev bs : List ℕ
  bs = old.extract.now

  abbrev words : List ℕ
  words = old.words.now

  abbrev S : Types
  S = word_types words

  abbrev c : Carried
  c = old.carried

  pub read-wrong : (f : Refusal) → Steps old new (Err f) → ReadOn old t new t (Err f)
  read-wrong f a = record { source = a.source; sizes = refl; after = by a.step }
    where
      by : {g : Refusal} → StepAs bs words old.levels c new.levels new.carried (Err g) → NoRows bs words g
      by (wrong-field w l e) =
          record { none-read = h.so_far ∙ ap (prepended h.done) (rest-wrong S bs c.at (state_in old.levels c) h.fuel w) ∙ prepended-none h.done; refused = refl }

  pub read-ended : Steps old new (Ok None) → ReadOn old t new t (Ok false)
  read-ended a = record { source = a.source; sizes = refl; after = by a.step }
    where
      by : StepAs bs words old.levels c new.levels new.carried (Ok None) → AllRead bs words (lent_columns t) new.carried.rows
      by (last-field w l e) =
          record {
            done = h.done;
            read = h.so_far ∙ ap (prepended h.done) (rest_ended S bs c.at (state_in old.levels c) h.fuel (omega (arith, h.enough)) w) ∙ prepended-all h.done;
            counted = ap (λ (n : Carried). n.rows) e ∙ h.counted;
            held = h.held;
          }

  pub read-one : (x : FieldRow) → Steps old new (Ok (Some x)) → (u : ColumnsMut) → Left t u (with_row (lent_columns t) c.rows (row_cells x)) → ReadOn old t new u (Ok true)
  read-one x a u put-in =
      record { source = a.source; sizes = ap sizes_of put-in.cells ∙ sizes-more (lent_columns t) c.rows (row_cells x); after = by a.step }
    where
      by : StepAs bs words old.levels c new.levels new.carried (Ok (Some x)) → OneRead bs words c.at new.levels (lent_columns u) new.carried
      by (row_field row w y n past far f) =
          record {
            reads = record {
              equal = subst EqualColumns (sym put-in.cells) (equal-more (lent_columns t) c.rows x.number x.name x.parent x.start x.size x.size h.equal);
              ready = f;
              done = h.done ++ (row ∷ []);
              counted = omega (arith, n, h.counted, length-append h.done (row ∷ []));
              held = hold-more (lent_columns t) (lent_columns u) h.done c.rows (row_cells x) row h.held put-in.cells h.counted y;
              fuel = h.fuel - 1;
              enough = omega (arith, h.enough, far, f.field-pass.inside);
              so_far = h.so_far
                  ∙ ap (prepended h.done) (rest-onward S bs c.at (state_in old.levels c) h.fuel (omega (arith, h.enough, far, f.field-pass.inside)) row (state_in new.levels new.carried) w)
                  ∙ ap (λ (k : ℕ). prepended h.done (cons_row row (rows_from S bs (h.fuel - 1) k (state_in new.levels new.carried)))) past
                  ∙ sym (prepended-next h.done row (rows_from S bs (h.fuel - 1) new.carried.at (state_in new.levels new.carried)));
            };
            onward = far;
            inside = f.field-pass.inside;
          }
