-- Selecting on a table that is handed in, as the library's outcome.
use Rattle.std.specs.Prelude.{Bool, true, cond, List, [], ◌≡◌, ℕ, ◌<◌, ◌≤◌, T, leb, length, take, Result}
use Rattle.std.proofs.Math.Bool.{false, not}
use Rattle.std.proofs.Math.Option.{Option, none, some}
use Rattle.std.proofs.Math.Path.{refl, sym, subst}
use Rattle.std.proofs.Common.{ap, ◌∙◌, arith, le-leb}
use Rattle.std.proofs.lemmas.Bool.{lt-leb}
use Rattle.axis_passes.specs.rows.Rows.{TextColumns}
use Rattle.cells.specs.columns.Columns.{EqualColumns}
use Rattle.cells.specs.lent.Columns.{first_cells}
use Rattle.cells.specs.lent.Ends.{Slice}
use Rattle.compiled_paths.specs.Paths.{paths_in}
use Rattle.compiled_paths.specs.declared.CompiledPaths.{CompiledPaths}
use Rattle.handed_tables.specs.columns.Rows.{lent-cells, lent-equal, lent-coded, lent-numbers, lent-codes, lent-parents, lent-columns}
use Rattle.library_spec.specs.Records.{LentTable, rows_lent, kept_if, table_beside}
use Rattle.library_spec.specs.Selections.{Selections}
use Rattle.path_spec.specs.Paths.{LocationPath}
use Rattle.path_spec.specs.Reading.{read_bundle}
use Rattle.schema_spec.specs.Records.{schema_in}
use Rattle.schema_spec.specs.Schemas.{Schema}
use Rattle.schema_spec.specs.Types.{types_of}
use Rattle.selection.specs.answers.Answers.{AnsweredSelections, RefusedBy, refused_as, AnsweredCells}
use Rattle.selection.specs.declared.answers.Selected.{Selected}
use Rattle.text.specs.declared.refusals.Reason.TheVariants.{BadRecord}
use Rattle.text.specs.declared.refusals.Refusal.{Refusal}
use Rattle.text.specs.refusals.Refusals.{refusal}
use Rattle.selection.specs.table.Tables.{RowsIn, rows_selected, paths-count, taken-texts}
use Rattle.table_laws.specs.Columns.{TestedColumns}
use Rattle.table_laws.specs.passes.Codes.{HeldWords}
use Rattle.table_spec.specs.Columns.{Columns}
use Rattle.table_spec.specs.Rows.{Row}
use Rattle.table_spec.specs.Tables.{well_formed, well_formed_with, text_inside}
use Rattle.tables.specs.Handed.{is_beside}
use Rattle.tables.specs.rows.Lent.{Lent}
use Rattle.text_laws.specs.Tests.{never, passed, and_cases}
use Rattle.text_spec.specs.Calls.{tested, handed}
use Rattle.text_spec.specs.Lists.{is_none, all_of}
use Rattle.text_spec.specs.Refusals.{Outcome, result_or}

-- ---- definitions
-- refusal 1 of the place and of the table beside its text, and what the paths asked for select
abbrev pub lent_selected : Schema → List (LocationPath ℕ) → ℕ → LentTable → List ℕ → ℕ → ℕ → Outcome Selections
lent_selected s ps place table lent items counts =
    tested (leb place (length ps)) (handed (table_beside s lent table) (λ rows. rows_selected lent rows place ps items counts))

-- a call that selects so on a lent table beside a lent text
abbrev pub SelectsLent : Schema → List (LocationPath ℕ) → ℕ → LentTable → List ℕ → Slice → Slice → Result Selected Refusal → Type 0
SelectsLent s ps place table lent items counts r = AnsweredCells (lent_selected s ps place table lent) r items counts

-- the same under each schema that the words belong to
abbrev pub SelectsUnder : List ℕ → List (LocationPath ℕ) → ℕ → LentTable → List ℕ → Slice → Slice → Result Selected Refusal → Type 0
SelectsUnder words ps place table lent items counts r = (s : Schema) → HeldWords (types_of s) words → SelectsLent s ps place table lent items counts r

-- the paths of a bundle's text under a schema's
abbrev pub bundle_of : List ℕ → List ℕ → List (LocationPath ℕ)
bundle_of schema text = result_or [] (read_bundle (schema_in schema) text)

-- the words are those of a schema
pub record SomeSchema (words : List ℕ) : Type 0 where
  pub schema : Schema
  pub held : HeldWords (types_of schema) words

-- ---- laws
-- the rows of a table beside its text
record Found (s : Schema) (lent : List ℕ) (t : LentTable) : Type 0 where
  pub rows : List Row
  pub found : table_beside s lent t ≡ some rows
  pub are : rows_lent t ≡ some rows
  pub passes : T (well_formed (types_of s) rows)

found_rows : (s : Schema) (lent : List ℕ) (t : LentTable) → is_beside s lent t ≡ true → Found s lent t
unfolding is_beside table_beside well_formed_with
found_rows s lent t e = by (rows_lent t) refl
  where
    test : List Row → Bool
    test = well_formed_with (types_of s) lent

    by : (o : Option (List Row)) → rows_lent t ≡ o → Found s lent t
    by none q = let z : false ≡ true = sym (ap (λ (x : Option (List Row)). not (is_none (kept_if test x))) q) ∙ e in never (cc)
    by (some rows) q = pick (test rows) refl
      where
        pick : (b : Bool) → test rows ≡ b → Found s lent t
        pick true p =
            record {
              rows = rows;
              found = ap (kept_if test) q ∙ ap (λ (b : Bool). cond b (some rows) none) p;
              are = q;
              passes = (and_cases (well_formed (types_of s) rows) (all_of (text_inside lent) rows) (passed p)).0;
            }
        pick false p =
            let z : false ≡ true = sym (ap (λ (x : Option (List Row)). not (is_none (kept_if test x))) q ∙ ap (λ (b : Bool). not (is_none (cond b (some rows) none))) p) ∙ e in
            never (cc)

-- what the test of the table says, under each schema that the words belong to
abbrev pub TestsTable : List ℕ → List ℕ → LentTable → Bool → Type 0
TestsTable words lent t b = (s : Schema) → HeldWords (types_of s) words → b ≡ is_beside s lent t

module _ (words lent : List ℕ) (t : LentTable) (b : Bool) (tests : TestsTable words lent t b) (some-schema : SomeSchema words) (passes : b ≡ true) where
  beside : Found some-schema.schema lent t
  beside = found_rows some-schema.schema lent t (sym (tests some-schema.schema some-schema.held) ∙ passes)

  pub beside-inside : Lent t.columns t.count
  beside-inside = let f = beside in lent-cells t f.rows f.are

  pub beside-equal : EqualColumns t.columns
  beside-equal = let f = beside in lent-equal t f.rows f.are

  -- its first rows
  module _ (x : Columns) (e : x ≡ first_cells t.count t.columns) where
    pub beside-columns : TestedColumns x.numbers x.names x.parents
    beside-columns = let f = beside in rw e (lent-columns t f.rows f.are some-schema.schema f.passes)

    pub beside-texts : TextColumns x.parents x.starts x.lengths x.decoded lent
    beside-texts = let l = beside-inside in rw e (taken-texts t.count t.columns lent l.parented l.started l.sized l.measured)

module _ (s : Schema) (c : CompiledPaths) (place : ℕ) (t : LentTable) (lent : List ℕ) (i n : ℕ) (r : Result Selected Refusal) (items counts : List ℕ) where
  abbrev Answer : Type 0
  Answer = AnsweredSelections (lent_selected s (paths_in c) place t lent i n) i n r items counts

  rest : Option (List Row) → Outcome Selections
  rest o = handed o (λ rows. rows_selected lent rows place (paths_in c) i n)

  pub no_place : c.count < place → RefusedBy (refusal BadRecord 0) i n r items counts → Answer
  no_place l h =
      let past = lt-leb place (length (paths_in c)) (omega (arith, paths-count c)) in
      rw past (refused_as (refusal BadRecord 0) i n r items counts h)

  module _ (l : place ≤ c.count) where
    placed : rest (table_beside s lent t) ≡ lent_selected s (paths_in c) place t lent i n
    unfolding rest
    placed = sym (ap (λ (b : Bool). tested b (rest (table_beside s lent t))) (le-leb place (length (paths_in c)) (omega (arith, paths-count c))))

    pub no_table : (words : List ℕ) (b : Bool) → TestsTable words lent t b → HeldWords (types_of s) words → b ≡ false → RefusedBy (refusal BadRecord 0) i n r items counts → Answer
    unfolding is_beside rest
    no_table words b tests held e h = subst (λ (o : Outcome Selections). AnsweredSelections o i n r items counts) (sym (ap rest gone) ∙ placed) (refused_as (refusal BadRecord 0) i n r items counts h)
      where
        by : (o : Option (List Row)) → not (is_none o) ≡ false → o ≡ none
        by none q = refl
        by (some rows) q = never (cc)

        gone : table_beside s lent t ≡ none
        gone = by (table_beside s lent t) (sym (tests s held) ∙ e)

    pub table_selected : (words : List ℕ) (b : Bool) → TestsTable words lent t b → HeldWords (types_of s) words → b ≡ true
        → (x : Columns) → x ≡ first_cells t.count t.columns
        → ((rows : List Row) → RowsIn (types_of s) rows x.numbers x.names x.parents → AnsweredSelections (rows_selected lent rows place (paths_in c) i n) i n r items counts) → Answer
    unfolding rest
    table_selected words b tests held e x d h =
        let f = found_rows s lent t (sym (tests s held) ∙ e) in
        let w : RowsIn (types_of s) f.rows (take t.count t.columns.numbers) (take t.count t.columns.names) (take t.count t.columns.parents) =
        record {
          well-formed = f.passes;
          coded = lent-coded t f.rows f.are;
          numbered = sym (lent-numbers t f.rows f.are);
          named = sym (lent-codes t f.rows f.are);
          parented = sym (lent-parents t f.rows f.are);
        } in
        subst (λ (o : Outcome Selections). AnsweredSelections o i n r items counts) (sym (ap rest f.found) ∙ placed) (h f.rows (rw d w))
