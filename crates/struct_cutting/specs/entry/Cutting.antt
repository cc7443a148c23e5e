-- Cutting a table of row structs for so many others, as the library's outcome: as for the rows that a table can have, where they are more.
use Rattle.std.specs.Prelude.{Bool, true, false, cond, List, [], ◌∷◌, ◌++◌, ◌≡◌, ℕ, ◌<◌, ◌≤◌, Result, length}
use Rattle.std.proofs.Math.Option.{Option, none, some}
use Rattle.std.proofs.Math.Path.{refl, sym, ap, subst}
use Rattle.std.proofs.Common.{ap₂, ◌∙◌}
use native.Mathlib.Omega.{arith}
use Rattle.cells.specs.verdicts.Verdicts.{verdict}
use Rattle.cut_table.specs.laws.Answers.{AnsweredTable}
use Rattle.extract_spec.specs.Cut.{kept, renumbered, cut_from, cut, cut_to_word}
use Rattle.handed_tables.specs.structs.Tables.{held-laid, none-held, held-few}
use Rattle.library_spec.specs.Calls.{in_columns, columns_after, table_cut, table_cut_rows, table_of_cells}
use Rattle.library_spec.specs.Records.{LentTable, schema_held, table_held}
use Rattle.row_structs.specs.Structs.{cell_count, cell_of, Laid, AnsweredFor}
use Rattle.row_structs.specs.laws.Answers.{Fitting, part_sizes, front, equal-sizes, room-fitting, room-same, part-sizes, in-front}
use Rattle.schema_spec.specs.Names.{Names, set_of_word}
use Rattle.schema_spec.specs.Schemas.{Schema}
use Rattle.schema_spec.specs.Types.{Types, types_of}
use Rattle.table_spec.specs.Columns.{Columns, Sizes, all_of_size, equal_sizes, sizes_of, columns}
use Rattle.table_spec.specs.Nodes.{Node, node_at}
use Rattle.table_spec.specs.Rows.{Row, Cells}
use Rattle.text.specs.declared.refusals.Refusal.{Refusal}
use Rattle.text_spec.specs.Calls.{handed, tested}
use Rattle.text_spec.specs.Limits.{max_nodes}
use Rattle.text_spec.specs.Records.{TextRecord}
use Rattle.text_spec.specs.Refusals.{Outcome, refused, at, bad_record}

-- ---- a cut has no more rows than the table
cut-from-few : (set : Names) (before : List Node) (rows : List Row) → length (cut_from set before rows) ≤ length rows
cut-from-few set before [] = omega arith
cut-from-few set before (r ∷ rows) =
    let next = before ++ (node_at [] before r ∷ []) in
    by (kept set (node_at [] before r)) (cut_from set next rows) (cut-from-few set next rows)
  where
    by : (b : Bool) (rest : List Row) → length rest ≤ length rows → length (cond b (renumbered set before r ∷ rest) rest) ≤ length (r ∷ rows)
    by true rest l = omega arith
    by false rest l = omega arith

cut-few : (s : Types) (word : ℕ) (rows : List Row) → length (cut_to_word s word rows) ≤ length rows
unfolding cut_to_word cut
cut-few s word rows = cut-from-few (set_of_word s.names word) [] rows

-- ---- the outcome
module _ (schema : TextRecord) (word : ℕ) where
  -- by the rows that the table holds, for so many structs
  under : ℕ → Schema → Option (List Row) → Outcome (List Row)
  under n s table = handed table (λ rows. tested (equal_sizes (all_of_size n)) (in_columns (all_of_size n) (cut_to_word (types_of s) word rows)))

  by-table : ℕ → Option Schema → (Schema → Option (List Row)) → Outcome (List Row)
  by-table n h table = handed h (λ s. under n s (table s))

  called : (n : ℕ) (t : LentTable) → table_cut schema t word (all_of_size n) ≡ by-table n (schema_held schema) (λ s. table_held s t)
  unfolding table_cut by-table under
  called n t = refl

  same_by : (n : ℕ) (h : Option Schema) (f g : Schema → Option (List Row)) → ((s : Schema) → f s ≡ g s) → by-table n h f ≡ by-table n h g
  unfolding by-table
  same_by n none f g e = refl
  same_by n (some s) f g e = ap (under n s) (e s)

  none-by : (n : ℕ) (h : Option Schema) → by-table n h (λ s. none) ≡ refused (at bad_record 0)
  unfolding by-table under
  none-by n none = refl
  none-by n (some s) = refl

  cut-under : (n : ℕ) (s : Schema) (rows : List Row) → under n s (some rows) ≡ in_columns (all_of_size n) (cut_to_word (types_of s) word rows)
  unfolding under
  cut-under n s rows = ap (λ (b : Bool). tested b (in_columns (all_of_size n) (cut_to_word (types_of s) word rows))) (equal-sizes n)

  module _ (t : LentTable) (n : ℕ) where
    rows_few : (s : Schema) (rows : List Row) → table_held s t ≡ some rows → length (cut_to_word (types_of s) word rows) ≤ max_nodes
    rows_few s rows e = omega (arith, cut-few (types_of s) word rows, held-few s t rows e)

    fitting-under : (s : Schema) → Fitting (under n s (table_held s t)) n
    unfolding under
    fitting-under s = by (table_held s t) refl
      where
        by : (o : Option (List Row)) → table_held s t ≡ o → Fitting (under n s o) n
        by none e = record { room = omega arith; few = omega arith }
        by (some rows) e = subst (λ (o : Outcome (List Row)). Fitting o n) (sym (cut-under n s rows)) (room-fitting n (cut_to_word (types_of s) word rows) (rows_few s rows e))

    fitting : Fitting (table_cut schema t word (all_of_size n)) n
    unfolding by-table
    fitting = subst (λ (o : Outcome (List Row)). Fitting o n) (sym (called n t)) (by (schema_held schema))
      where
        by : (h : Option Schema) → Fitting (by-table n h (λ s. table_held s t)) n
        by none = record { room = omega arith; few = omega arith }
        by (some s) = fitting-under s

    -- the structs past those of a table make no difference
    same-under : (s : Schema) → under (cell_of n) s (table_held s t) ≡ under n s (table_held s t)
    unfolding under
    same-under s = by (table_held s t) refl
      where
        by : (o : Option (List Row)) → table_held s t ≡ o → under (cell_of n) s o ≡ under n s o
        by none e = refl
        by (some rows) e = cut-under (cell_of n) s rows ∙ room-same n (cut_to_word (types_of s) word rows) (rows_few s rows e) ∙ sym (cut-under n s rows)

    same : table_cut schema t word (all_of_size (cell_of n)) ≡ table_cut schema t word (all_of_size n)
    unfolding by-table
    same = called (cell_of n) t ∙ by (schema_held schema) ∙ sym (called n t)
      where
        by : (h : Option Schema) → by-table (cell_of n) h (λ s. table_held s t) ≡ by-table n h (λ s. table_held s t)
        by none = refl
        by (some s) = same-under s

  -- ---- row structs
  module _ (rows : List Cells) (n : ℕ) where
    -- more than a table can have
    pub many-refused : max_nodes < length rows → table_cut_rows schema rows word n ≡ refused (at bad_record 0)
    unfolding table_cut_rows
    many-refused many =
        let t = table_of_cells rows in
        called n t ∙ same_by n (schema_held schema) (λ s. table_held s t) (λ s. none) (λ s. none-held s t many) ∙ none-by n (schema_held schema)

    pub cut-many : max_nodes < length rows → (v : Result ℕ Refusal) (c : Columns) → AnsweredFor (refused (at bad_record 0)) n v c → AnsweredFor (table_cut_rows schema rows word n) n v c
    cut-many many v c h = subst (λ (o : Outcome (List Row)). AnsweredFor o n v c) (sym (many-refused many)) h

    -- laid in columns, and cut into the first cells of columns of zeros
    module _ (c : Columns) (count : ℕ) (sizes : sizes_of c ≡ all_of_size cell_count) (long : length rows ≡ count) (laid : Laid rows c)
        (k : ℕ) (size : k ≡ cell_of n) (v : Result ℕ Refusal) (numbers names parents starts lengths decoded : List ℕ) where
      abbrev given : LentTable
      given = record { columns = c; count = count }

      for-structs : table_cut schema given word (part_sizes k) ≡ table_cut_rows schema rows word n
      unfolding table_cut_rows
      for-structs =
          ap (table_cut schema given word) (part-sizes k n size ∙ ap all_of_size size) ∙ same given n ∙ called n given
          ∙ same_by n (schema_held schema) (λ s. table_held s given) (λ s. table_held s (table_of_cells rows)) (λ s. held-laid c count sizes rows long laid s) ∙ sym (called n (table_of_cells rows))

      fitting-structs : Fitting (table_cut_rows schema rows word n) n
      unfolding table_cut_rows
      fitting-structs = fitting (table_of_cells rows) n

      pub cut-for : AnsweredTable (table_cut schema given word (part_sizes k)) (part_sizes k) v (columns numbers names parents starts lengths decoded)
          → AnsweredFor (table_cut_rows schema rows word n) n v (columns (front k numbers) (front k names) (front k parents) (front k starts) (front k lengths) (front k decoded))
      cut-for w =
          in-front (table_cut_rows schema rows word n) n fitting-structs v (w.answer ∙ ap verdict for-structs) k size numbers names parents starts lengths decoded
          (w.cells ∙ ap₂ (λ (z : Sizes) (o : Outcome (List Row)). columns_after z (λ rs. rs) o) (part-sizes k n size) for-structs)
