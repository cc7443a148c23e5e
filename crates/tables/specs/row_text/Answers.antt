-- The answer of the text of a row, and that it is the library's outcome.
use Rattle.std.specs.Prelude as rust
use Rattle.std.specs.Prelude.{Bool, cond, Result, Ok, Err, Some, None, List, [], ◌≡◌, ℕ, ◌+◌, ◌-◌, ◌<◌, ◌≤◌, T, leb, length, get_or, drop}
use Rattle.std.proofs.Math.Bool.{true, false, not}
use Rattle.std.proofs.Common.{⊎_elim, subst, ◌∙◌, le-leb}
use Rattle.std.proofs.Math.Option.{Option, none, some}
use Rattle.std.proofs.Math.Path.{refl, sym, ap}
use native.Mathlib.Omega.{arith}
use Rattle.std.proofs.lemmas.Bool.{lt-leb}
use Rattle.std.proofs.Math.ListN.{get_elem?, take}
use Rattle.library_spec.specs.Calls.{text_of_row, no_text, text_at, row_text, part_after}
use Rattle.library_spec.specs.Calls as Calls
use Rattle.library_spec.specs.Records.{LentTable, schema_held, rows_lent, kept_if, table_beside, passes_schema}
use Rattle.schema_spec.specs.Names.{Name, element, text, is_text, code_of}
use Rattle.schema_spec.specs.Records.{schema_in}
use Rattle.schema_spec.specs.Schemas.{Schema}
use Rattle.schema_spec.specs.Types.{types_of}
use Rattle.table_laws.specs.Places.{at_some, at_bound, at_in}
use Rattle.table_laws.specs.WellFormed.{well-formed-beside}
use Rattle.table_laws.specs.passes.Codes.{code-text}
use Rattle.table_laws.specs.passes.Lines.{Stands}
use Rattle.table_laws.specs.passes.Passes.{is_text_code}
use Rattle.table_laws.specs.passes.Tables.{StandFrom, rows-stand}
use Rattle.table_spec.specs.Columns.{Columns, cells_at, cells_from}
use Rattle.table_spec.specs.Rows.{Row, Cells, rows_of}
use Rattle.table_spec.specs.Tables.{well_formed_with}
use Rattle.tables.specs.Handed.{is_beside, sizes_fit, fit-lent}
use Rattle.tables.specs.declared.row_text.TextPlace.{TextPlace}
use Rattle.tables.specs.rows.Lent.{Lent}
use Rattle.text_laws.specs.Searches.{below-or-past}
use Rattle.text_laws.specs.Tests.{never, passed}
use Rattle.text.specs.declared.refusals.Reason.TheVariants.{BadRecord}
use Rattle.text.specs.declared.refusals.Refusal.{Refusal}
use Rattle.text.specs.refusals.Refusals.{refusal, refusal_in}
use Rattle.text_spec.specs.Calls.{handed}
use Rattle.text_spec.specs.Lists.{is_none}
use Rattle.text_spec.specs.Records.{TextRecord, text_in}
use Rattle.text_spec.specs.Refusals.{Outcome, accepted, refused, at, bad_record}

-- ---- definitions
-- what a call answers: where the text of a row stands, or none for an element
abbrev pub Answer : Type 0
Answer = Result (rust.Option TextPlace) Refusal

-- the answer as an outcome of the library
abbrev pub text_outcome : Answer → Outcome Calls.RowText
text_outcome (Ok None) = accepted no_text
text_outcome (Ok (Some p)) = accepted (text_at p.start p.size p.decoded)
text_outcome (Err f) = refused (refusal_in f)

-- refused by 1: a record, a table or a position that is none
abbrev pub refused-by-1 : Answer
refused-by-1 = Err (refusal BadRecord 0)

-- the text of a row by its cells
abbrev pub place_of : Cells → rust.Option TextPlace
place_of x = cond (is_text_code x.name) (Some (record { start = x.start; size = x.size; decoded = x.decoded })) None

-- the answer for a row of tested columns
abbrev pub text_of : Columns → ℕ → ℕ → Answer
text_of c count position = cond (leb count position) refused-by-1 (Ok (place_of (cells_at c position)))

-- ---- laws
abbrev after_table : Option (List Row) → ℕ → Outcome Calls.RowText
after_table o position = handed o (λ rows. handed (get_elem? rows position) (λ r. accepted (text_of_row r.name r)))

by-record : (schema : TextRecord) (t : LentTable) (lent : List ℕ) (position : ℕ) → passes_schema schema ≡ true
    → row_text schema t lent position ≡ after_table (table_beside (schema_in (text_in schema)) lent t) position
unfolding row_text schema_held
by-record schema t lent position e =
    ap (λ (b : Bool). handed (cond b (some (schema_in (text_in schema))) none) (λ s. after_table (table_beside s lent t) position)) e

pub no_record : (schema : TextRecord) (t : LentTable) (lent : List ℕ) (position : ℕ) → passes_schema schema ≡ false → refused (at bad_record 0) ≡ row_text schema t lent position
unfolding row_text schema_held
no_record schema t lent position e =
    sym (ap (λ (b : Bool). handed (cond b (some (schema_in (text_in schema))) none) (λ s. after_table (table_beside s lent t) position)) e)

module _ (schema : TextRecord) (t : LentTable) (lent : List ℕ) (position : ℕ) (record-passes : passes_schema schema ≡ true) where
  pub no_table : is_beside (schema_in (text_in schema)) lent t ≡ false → refused (at bad_record 0) ≡ row_text schema t lent position
  unfolding is_beside
  no_table e = pick (table_beside (schema_in (text_in schema)) lent t) refl e ∙ sym (by-record schema t lent position record-passes)
    where
      pick : (o : Option (List Row)) → table_beside (schema_in (text_in schema)) lent t ≡ o → not (is_none o) ≡ false → refused (at bad_record 0) ≡ after_table (table_beside (schema_in (text_in schema)) lent t) position
      pick none q f = ap (λ (x : Option (List Row)). after_table x position) (sym q)
      pick (some rows) q f = never (cc)

-- what a table beside a text holds: the rows in its columns, well formed beside the text
record Found (z : Schema) (lent : List ℕ) (t : LentTable) (rows : List Row) : Type 0 where
  pub stand : StandFrom t.columns 0 t.count rows
  pub passes : T (well_formed_with (types_of z) lent rows)

kept-found : (test : List Row → Bool) (o : Option (List Row)) (rows : List Row) → kept_if test o ≡ some rows → (o ≡ some rows) × T (test rows)
kept-found test none rows e = never (cc)
kept-found test (some xs) rows e = pick (test xs) refl e
  where
    pick : (b : Bool) → test xs ≡ b → cond b (some xs) none ≡ some rows → (some xs ≡ some rows) × T (test rows)
    pick true q f = let same : xs ≡ rows = cc in (f, subst (λ (x : List Row). T (test x)) same (passed q))
    pick false q f = never (cc)

lent_found : (t : LentTable) (rows : List Row) → rows_lent t ≡ some rows → rows_of (cells_from t.columns 0 t.count) ≡ some rows
lent_found t rows e = pick (sizes_fit t) refl e
  where
    pick : (b : Bool) → sizes_fit t ≡ b → cond b (rows_of (cells_from t.columns 0 t.count)) none ≡ some rows → rows_of (cells_from t.columns 0 t.count) ≡ some rows
    pick true q f = f
    pick false q f = never (cc)

table-found : (z : Schema) (lent : List ℕ) (t : LentTable) (rows : List Row) → table_beside z lent t ≡ some rows → Found z lent t rows
unfolding table_beside
table-found z lent t rows e =
    let k = kept-found (well_formed_with (types_of z) lent) (rows_lent t) rows e in
    record { stand = rows-stand t.columns 0 t.count rows (lent_found t rows k.0); passes = k.1 }

-- ---- the row at a position
module _ (t : LentTable) (rows : List Row) (stand : StandFrom t.columns 0 t.count rows) (position : ℕ) where
  past : t.count ≤ position → refused (at bad_record 0) ≡ after_table (some rows) position
  past l = pick (get_elem? rows position) refl
    where
      pick : (o : Option Row) → get_elem? rows position ≡ o → refused (at bad_record 0) ≡ handed o (λ r. accepted (text_of_row r.name r))
      pick none e = refl
      pick (some r) e = absurd (omega (arith, at_bound rows position r e, stand.size))

  abbrev placed : Row → Bool → rust.Option TextPlace
  placed r b = cond b (Some (record { start = r.start; size = r.size; decoded = r.decoded })) None

  by_name : (r : Row) (n : Name) → r.name ≡ n → text_outcome (Ok (placed r (is_text n))) ≡ accepted (text_of_row n r)
  by_name r (element e) q = refl
  by_name r (text e) q = refl

  inside : position < t.count → text_outcome (Ok (place_of (cells_at t.columns position))) ≡ after_table (some rows) position
  inside l =
      let f = at_some rows position (omega (arith, stand.size)) in
      let r = f.0 in
      let zero : 0 + position ≡ position = omega arith in
      let here : Stands t.columns position r = subst (λ (x : ℕ). Stands t.columns x r) zero (stand.each position r f.1) in
      ap (λ (x : Cells). text_outcome (Ok (place_of x))) here.cells ∙ ap (λ (b : Bool). text_outcome (Ok (placed r b))) (code-text (code_of r.name) r.name here.coded) ∙ by_name r r.name refl
      ∙ sym (ap (λ (o : Option Row). handed o (λ z. accepted (text_of_row z.name z))) f.1)

  row-answer : text_outcome (text_of t.columns t.count position) ≡ after_table (some rows) position
  row-answer = ⊎_elim (λ l. ap text_outcome (at-inside l) ∙ inside l) (λ l. ap text_outcome (at-past l) ∙ past l) (below-or-past position t.count)
    where
      answers : Bool → Answer
      answers b = cond b refused-by-1 (Ok (place_of (cells_at t.columns position)))

      at-inside : position < t.count → answers (leb t.count position) ≡ answers false
      at-inside l = ap answers (lt-leb t.count position l)

      at-past : t.count ≤ position → answers (leb t.count position) ≡ answers true
      at-past l = ap answers (le-leb t.count position l)

-- The answer for a row of a table that is handed in.
module _ (schema : TextRecord) (t : LentTable) (lent : List ℕ) (position : ℕ) (record-passes : passes_schema schema ≡ true) where
  pub row-found : is_beside (schema_in (text_in schema)) lent t ≡ true
      → text_outcome (text_of t.columns t.count position) ≡ row_text schema t lent position
  unfolding is_beside
  row-found e = pick (table_beside (schema_in (text_in schema)) lent t) refl e ∙ sym (by-record schema t lent position record-passes)
    where
      pick : (o : Option (List Row)) → table_beside (schema_in (text_in schema)) lent t ≡ o → not (is_none o) ≡ true
          → text_outcome (text_of t.columns t.count position) ≡ after_table (table_beside (schema_in (text_in schema)) lent t) position
      pick none q f = never (cc)
      pick (some rows) q f =
          row-answer t rows (table-found (schema_in (text_in schema)) lent t rows q).stand position ∙ ap (λ (x : Option (List Row)). after_table x position) (sym q)

-- ---- a text that is answered lies inside the lent text
name-inside : (n : Name) (r : Row) (a k d : ℕ) → text_of_row n r ≡ text_at a k d → T (is_text n) × (r.start ≡ a) × (r.size ≡ k)
name-inside (element e) r a k d q = never (cc)
name-inside (text e) r a k d q = (tt, cc, cc)

found_inside : (z : Schema) (t : LentTable) (lent : List ℕ) (position a k d : ℕ) → after_table (table_beside z lent t) position ≡ accepted (text_at a k d) → a + k ≤ length lent
found_inside z t lent position a k d e = pick (table_beside z lent t) refl e
  where
    at_row : (rows : List Row) → Found z lent t rows → (o : Option Row) → get_elem? rows position ≡ o → handed o (λ r. accepted (text_of_row r.name r)) ≡ accepted (text_at a k d)
        → a + k ≤ length lent
    at_row rows f none q h = never (cc)
    at_row rows f (some r) q h =
        let same : text_of_row r.name r ≡ text_at a k d = cc in
        let n = name-inside r.name r a k d same in
        let w = (well-formed-beside (types_of z) lent rows).0 f.passes in
        omega (arith, w.inside r (at_in rows position r q) n.0, n.1, n.2)

    pick : (o : Option (List Row)) → table_beside z lent t ≡ o → after_table o position ≡ accepted (text_at a k d) → a + k ≤ length lent
    pick none q h = never (cc)
    pick (some rows) q h = at_row rows (table-found z lent t rows q) (get_elem? rows position) refl h

answer-inside : (schema : TextRecord) (t : LentTable) (lent : List ℕ) (position a k d : ℕ) → accepted (text_at a k d) ≡ row_text schema t lent position → a + k ≤ length lent
unfolding row_text schema_held
answer-inside schema t lent position a k d e = pick (passes_schema schema) (sym e)
  where
    pick : (b : Bool) → handed (cond b (some (schema_in (text_in schema))) none) (λ z. after_table (table_beside z lent t) position) ≡ accepted (text_at a k d) → a + k ≤ length lent
    pick true h = found_inside (schema_in (text_in schema)) t lent position a k d h
    pick false h = never (cc)

pub text-inside : (schema : TextRecord) (t : LentTable) (lent : List ℕ) (position : ℕ) (r : Answer) → text_outcome r ≡ row_text schema t lent position
    → (p : TextPlace) → r ≡ Ok (Some p) → p.start + p.size ≤ length lent
text-inside schema t lent position r is p e = answer-inside schema t lent position p.start p.size p.decoded (ap text_outcome (sym e) ∙ is)

-- a table that is handed in has a cell for each row in each column
pub beside-lent : (z : Schema) (lent : List ℕ) (t : LentTable) → is_beside z lent t ≡ true → Lent t.columns t.count
unfolding is_beside table_beside
beside-lent z lent t e = pick (sizes_fit t) refl e
  where
    pick : (b : Bool) → sizes_fit t ≡ b → not (is_none (kept_if (well_formed_with (types_of z) lent) (cond b (rows_of (cells_from t.columns 0 t.count)) none))) ≡ true
        → Lent t.columns t.count
    pick true q f = fit-lent t q
    pick false q f = never (cc)

-- the part of a text, by the answer
pub part-element : (lent : List ℕ) (o : Outcome Calls.RowText) → text_outcome (Ok None) ≡ o → [] ≡ part_after lent o
unfolding part_after
part-element lent o is = ap (part_after lent) is

pub part-refused : (lent : List ℕ) (f : Refusal) (o : Outcome Calls.RowText) → text_outcome (Err f) ≡ o → [] ≡ part_after lent o
unfolding part_after
part-refused lent f o is = ap (part_after lent) is

pub part-text : (lent : List ℕ) (p : TextPlace) (o : Outcome Calls.RowText) → text_outcome (Ok (Some p)) ≡ o → take (p.start + p.size - p.start) (drop p.start lent) ≡ part_after lent o
unfolding part_after
part-text lent p o is =
    let n : p.start + p.size - p.start ≡ p.size = omega arith in
    ap (λ (x : ℕ). take x (drop p.start lent)) n ∙ ap (part_after lent) is
