-- Cutting a table that is handed in: what is asked of its columns, and that the answer is the library's outcome.
use Rattle.std.specs.Prelude.{Bool, cond, Result, Ok, Err, ◌≡◌, ℕ, ◌+◌, ◌-◌, T, ltb, length, get_or, take}
use Rattle.std.proofs.Math.Bool.{true, false}
use mathlib.Core.List.{List, [], ◌∷◌, map}
use Rattle.std.proofs.Math.Path.{refl, ap}
use Rattle.std.proofs.Common.{sym, ap₂, subst, ◌∙◌, arith, lt-ltb, le-ltb, length-take-le}
use Rattle.std.proofs.lemmas.List.{length-map}
use Rattle.cells.specs.columns.ColumnLaws.{equal-columns}
use Rattle.cells.specs.columns.Lent.{lent_columns, Same, Left}
use Rattle.cells.specs.declared.columns.ColumnsMut.{ColumnsMut}
use Rattle.cells.specs.lent.Columns.{first_cells}
use Rattle.cells.specs.row_sets.Columns.{picked}
use Rattle.cells.specs.verdicts.Verdicts.{verdict}
use Rattle.extract_spec.specs.Cut.{cut, cut_to_word}
use Rattle.handed_tables.specs.calls.Calls.{Holds, table-holds, record-refused, record-held, table-refused, table-held}
use Rattle.handed_tables.specs.columns.Rows.{lent-coded, lent-cells, held-columns, lent-columns}
use Rattle.kept_rows.specs.Joined.{rank}
use Rattle.kept_rows.specs.Kept.{in_set, kept_marks}
use Rattle.kept_rows.specs.columns.Cut.{answered, padded_columns, TableColumns, CutAs}
use Rattle.kept_rows.specs.cut_rows.Rows.{OfLength}
use Rattle.kept_rows.specs.laws.Cut.{columns_in, PassesFor, renumbered_by, parents-first, cut-picked, marks-size, cut-columns}
use Rattle.kept_rows.specs.laws.Picked.{picked-length}
use Rattle.library_spec.specs.Calls.{in_columns, columns_after, table_cut}
use Rattle.library_spec.specs.Records.{LentTable, table_held, passes_schema}
use Rattle.names.specs.SetLaws.{in-set_of, set_of-in}
use Rattle.names.specs.Sets.{member, set_in, Known}
use Rattle.names.specs.codes.Codes.{name_of_code}
use Rattle.names.specs.declared.NameSet.{NameSet}
use Rattle.schema_laws.specs.Names.{has_in, in-has}
use Rattle.schema_spec.specs.Names.{Name, Names, element, text, code_of, has, names_of, set_of_word}
use Rattle.schema_spec.specs.Records.{schema_in}
use Rattle.schema_spec.specs.Schemas.{Schema}
use Rattle.schema_spec.specs.Types.{Types, types_of}
use Rattle.table_laws.specs.Codes.{HasCode, NamesCoded}
use Rattle.table_spec.specs.Columns.{Columns, Sizes, sizes_of, equal_sizes, columns_of, columns}
use Rattle.table_spec.specs.Rows.{Row}
use Rattle.table_spec.specs.Tables.{well_formed}
use Rattle.tables.specs.Handed.{is_held}
use Rattle.tables.specs.rows.Lent.{Lent}
use Rattle.text.specs.declared.refusals.Reason.TheVariants.{BadRecord, TooFewCells}
use Rattle.text.specs.declared.refusals.Refusal.{Refusal}
use Rattle.text.specs.refusals.Refusals.{refusal}
use Rattle.text_laws.specs.Tests.{passed, same_test}
use Rattle.text_spec.specs.Calls.{tested, handed}
use Rattle.text_spec.specs.Limits.{max_declarations}
use Rattle.text_spec.specs.Records.{TextRecord, text_in}
use Rattle.text_spec.specs.Refusals.{Outcome, accepted, refused, at, bad_record, too_few_cells}

-- ---- definitions
-- a table answered in lent columns: how many rows or the refusal, and the columns at exit
pub record AnsweredTable (o : Outcome (List Row)) (z : Sizes) (r : Result ℕ Refusal) (x : Columns) : Type 0 where
  pub answer : r ≡ verdict o
  pub cells : x ≡ columns_after z (λ rows. rows) o

-- a call that is lent six columns, by its outcome for so many cells of each
pub record AnsweredColumns (call : Sizes → Outcome (List Row)) (r : Result ℕ Refusal) (old new : ColumnsMut) : Type 0 where
  pub same : Same old new
  pub table : AnsweredTable (call (sizes_of (lent_columns old))) (sizes_of (lent_columns old)) r (lent_columns new)

-- refused by 1, and no row in the columns
pub record RefusedColumns (r : Result ℕ Refusal) (old new : ColumnsMut) : Type 0 where
  pub answer : r ≡ Err (refusal BadRecord 0)
  pub left : Left old new (columns_of (sizes_of (lent_columns old)) [])

-- a table cut under a schema's record
abbrev pub TableCutIn : TextRecord → LentTable → ℕ → Result ℕ Refusal → ColumnsMut → ColumnsMut → Type 0
TableCutIn schema t word r old new = AnsweredColumns (table_cut schema t word) r old new

-- what cutting asks of a table that has passed refusal 1, and of the columns that are lent for the answer
pub record Cuttable (t : LentTable) (o : Columns) : Type 0 where
  pub lent : Lent t.columns t.count
  pub rows : TableColumns (first_cells t.count t.columns)
  pub room : OfLength o (length o.numbers)

-- how many rows in so much room, and 18 where it is too little
abbrev pub answer_in : ℕ → ℕ → Result ℕ Refusal
answer_in room n = cond (ltb room n) (Err (refusal TooFewCells 0)) (Ok n)

-- the rows that the codes keep, and 18 where there are too few cells for them
pub record CutFirst (f : ℕ → Bool) (c o : Columns) (r : Result ℕ Refusal) (x : Columns) : Type 0 where
  pub count : ℕ
  pub answer : r ≡ answer_in (length o.numbers) count
  pub cells : CutAs f c o count x

-- the same of lent columns
pub record CutFirstIn (f : ℕ → Bool) (c : Columns) (r : Result ℕ Refusal) (old new : ColumnsMut) : Type 0 where
  pub same : Same old new
  pub first : CutFirst f c (lent_columns old) r (lent_columns new)

-- ---- the columns of a table that is handed in
module _ (s : Schema) (t : LentTable) (rows : List Row) (h : Holds s t rows) where
  root-first : get_or (map (λ r. r.parent) rows) 0 0 ≡ 0
  root-first = by rows h.passes
    where
      by : (rs : List Row) → T (well_formed (types_of s) rs) → get_or (map (λ r. r.parent) rs) 0 0 ≡ 0
      by [] p = refl
      by (r ∷ rs) p = omega (arith, parents-first (types_of s) (r ∷ rs) p 0 (omega arith))

  pub holds-cuttable : (o : Columns) → OfLength o (length o.numbers) → Cuttable t o
  holds-cuttable o room =
      let c = t.columns in
      let n = t.count in
      let l = lent-cells t rows h.lent in
      let k = lent-columns t rows h.lent s h.passes in
      let long : length (take n c.parents) ≡ n = length-take-le n c.parents l.parented in
      record {
        lent = l;
        rows = record {
          kept = record { before = k.before; coded = k.coded; size = k.names-size; few = k.few };
          sizes = record {
            numbers = k.numbers-size;
            names = k.names-size;
            parents = refl;
            starts = length-take-le n c.starts l.started ∙ sym long;
            lengths = length-take-le n c.lengths l.sized ∙ sym long;
            decoded = length-take-le n c.decoded l.measured ∙ sym long;
          };
          root = sym (ap (λ (x : Columns). get_or x.parents 0 0) (held-columns t rows h.lent)) ∙ root-first;
        };
        room = room;
      }

-- columns of one length, by their test
pub sizes-equal : (o : Columns) → equal_sizes (sizes_of o) ≡ true → OfLength o (length o.numbers)
sizes-equal o e =
    let q = equal-columns o (passed e) in
    record { numbers = refl; names = q.of-names; parents = q.of-parents; starts = q.of-starts; lengths = q.of-lengths; decoded = q.of-decoded }

-- ---- the set that is handed in
name-of-code : (n : Name) → HasCode n → name_of_code (code_of n) ≡ n
unfolding name_of_code
name-of-code (element e) h = ap (λ (b : Bool). cond b (element e) (text (e - max_declarations))) (lt-ltb e max_declarations h)
name-of-code (text e) h =
    let z : max_declarations + e - max_declarations ≡ e = omega arith in
    ap (λ (b : Bool). cond b (element (max_declarations + e)) (text (max_declarations + e - max_declarations))) (le-ltb (max_declarations + e) max_declarations (omega arith)) ∙ ap text z

module _ (s : Schema) (word : ℕ) (set : NameSet) (same : set_in s set ≡ set_of_word (names_of s) word) (known : Known s set) where
  in-set : (n : Name) → member set n ≡ has n (set_of_word (names_of s) word)
  in-set n =
      same_test (member set n) (has n (set_in s set)) (λ t. in-has (in-set_of set (known n t) t)) (λ t. (set_of-in (names_of s) set (has_in n (set_in s set) t)).1)
      ∙ ap (has n) same

  set-passes : (rows : List Row) → NamesCoded rows → PassesFor (in_set set) (set_of_word (names_of s) word) rows
  set-passes rows coded r i = ap (member set) (name-of-code r.name (coded r i)) ∙ in-set r.name

-- ---- the rows that are kept are those of the cut
module _ (s : Types) (rows : List Row) (ok : T (well_formed s rows)) (f : ℕ → Bool) (set : Names) (agree : PassesFor f set rows) where
  abbrev marked : List ℕ
  marked = kept_marks f (map (λ q. code_of q.name) rows) (map (λ q. q.parent) rows)

  cut-count : rank marked (length (map (λ q. q.parent) rows)) ≡ length (cut set rows)
  cut-count =
      ap (rank marked) (length-map rows (λ q. q.parent)) ∙ picked-length marked rows (marks-size s rows ok f set agree)
      ∙ sym (length-map (picked marked rows) (renumbered_by marked)) ∙ ap (λ (l : List Row). length l) (sym (cut-picked s rows ok f set agree))

  room-answer : (z : Sizes) (cuts : List Row) → answer_in z.numbers (length cuts) ≡ verdict (in_columns z cuts)
  room-answer z cuts = pick (ltb z.numbers (length cuts))
    where
      pick : (b : Bool) → cond b (Err (refusal TooFewCells 0)) (Ok (length cuts)) ≡ verdict (cond b (refused (at too_few_cells 0)) (accepted cuts))
      pick true = refl
      pick false = refl

  room-cells : (z : Sizes) (cuts : List Row) → answered z (length cuts) (columns_in cuts) ≡ columns_after z (λ x. x) (in_columns z cuts)
  unfolding answered padded_columns columns_after
  room-cells z cuts = pick (ltb z.numbers (length cuts))
    where
      pick : (b : Bool) → padded_columns z (cond b (columns [] [] [] [] [] []) (columns_in cuts)) ≡ columns_after z (λ x. x) (cond b (refused (at too_few_cells 0)) (accepted cuts))
      pick true = refl
      pick false = refl

  cut-answers : (o : Columns) (r : Result ℕ Refusal) (x : Columns) → CutFirst f (columns_in rows) o r x → AnsweredTable (in_columns (sizes_of o) (cut set rows)) (sizes_of o) r x
  cut-answers o r x w =
      let n : w.count ≡ length (cut set rows) = w.cells.count ∙ cut-count in
      record {
        answer = w.answer ∙ ap (answer_in (length o.numbers)) n ∙ room-answer (sizes_of o) (cut set rows);
        cells = w.cells.columns ∙ ap₂ (answered (sizes_of o)) n (cut-columns s rows ok f set agree) ∙ room-cells (sizes_of o) (cut set rows);
      }

-- ---- a table that is handed in
unfoldable pub cut_held : Schema → LentTable → ℕ → Sizes → Outcome (List Row)
cut_held s t word z = handed (table_held s t) (λ rows. tested (equal_sizes z) (in_columns z (cut_to_word (types_of s) word rows)))

-- the same of lent columns
abbrev pub HeldCutIn : Schema → LentTable → ℕ → Result ℕ Refusal → ColumnsMut → ColumnsMut → Type 0
HeldCutIn s t word r old new = AnsweredColumns (cut_held s t word) r old new

-- nothing is answered but a refusal by 1
pub refused-1 : {o : Outcome (List Row)} {z : Sizes} {r : Result ℕ Refusal} {x : Columns} → o ≡ refused (at bad_record 0) → r ≡ Err (refusal BadRecord 0) → x ≡ columns_of z [] → AnsweredTable o z r x
unfolding columns_after
refused-1 e v c = rw e (record { answer = v; cells = c })

module _ (s : Schema) (t : LentTable) (word : ℕ) (z : Sizes) where
  pub no_table : is_held s t ≡ false → cut_held s t word z ≡ refused (at bad_record 0)
  unfolding cut_held
  no_table e = table-refused s t _ e

  by-sizes : (held : is_held s t ≡ true) (b : Bool) → equal_sizes z ≡ b → cut_held s t word z ≡ tested b (in_columns z (cut_to_word (types_of s) word (table-holds s t held).0))
  unfolding cut_held
  by-sizes held b e =
      let found = table-holds s t held in
      table-held s t _ found.0 found.1 ∙ ap (λ (x : Bool). tested x (in_columns z (cut_to_word (types_of s) word found.0))) e

  pub no-sizes : is_held s t ≡ true → equal_sizes z ≡ false → cut_held s t word z ≡ refused (at bad_record 0)
  no-sizes held e = by-sizes held false e

module _ (s : Schema) (t : LentTable) (o : Columns) (held : is_held s t ≡ true) (equal : equal_sizes (sizes_of o) ≡ true) where
  abbrev found : (rows : List Row) × Holds s t rows
  found = table-holds s t held

  pub cut-asked : Cuttable t o
  cut-asked = holds-cuttable s t found.0 found.1 o (sizes-equal o equal)

  pub cut-found : (word : ℕ) (set : NameSet) → (set_in s set ≡ set_of_word (names_of s) word) × Known s set → (r : Result ℕ Refusal) (x : Columns)
      → CutFirst (in_set set) (first_cells t.count t.columns) o r x → AnsweredTable (cut_held s t word (sizes_of o)) (sizes_of o) r x
  unfolding cut_to_word types_of
  cut-found word set (same, known) r x w =
      rw (by-sizes s t word (sizes_of o) held true equal)
      (cut-answers (types_of s) found.0 found.1.passes (in_set set) (set_of_word (names_of s) word) (set-passes s word set same known found.0 (lent-coded t found.0 found.1.lent))
      o r x (subst (λ (c : Columns). CutFirst (in_set set) c o r x) (sym (held-columns t found.0 found.1.lent)) w))

-- ---- and a schema's record
module _ (schema : TextRecord) (t : LentTable) (word : ℕ) (z : Sizes) where
  pub no_record : passes_schema schema ≡ false → table_cut schema t word z ≡ refused (at bad_record 0)
  unfolding table_cut
  no_record e = record-refused schema _ e

  pub by-record : passes_schema schema ≡ true → (r : Result ℕ Refusal) (x : Columns) → AnsweredTable (cut_held (schema_in (text_in schema)) t word z) z r x → AnsweredTable (table_cut schema t word z) z r x
  unfolding table_cut cut_held
  by-record e r x w = rw (record-held schema _ e) w
