-- Selecting on a table of row structs, as the library's outcome.
use Rattle.std.specs.Prelude.{Bool, true, false, ◌||◌, List, ◌≡◌, ℕ, ◌<◌, Result, leb, length}
use Rattle.std.proofs.Math.Option.{Option, none, some}
use Rattle.std.proofs.Math.Path.{refl, sym, ap, subst}
use Rattle.std.proofs.Common.{◌∙◌}
use Rattle.handed_tables.specs.structs.Tables.{none_beside, beside-laid}
use Rattle.library_spec.specs.Calls.{nodes_selected, nodes_selected_rows, table_of_cells}
use Rattle.library_spec.specs.Records.{LentTable, schema_held, bundle_held, table_beside}
use Rattle.library_spec.specs.Selections.{asked_paths, Selections, selections}
use Rattle.path_spec.specs.Paths.{LocationPath}
use Rattle.row_structs.specs.Structs.{cell_count, Laid}
use Rattle.schema_spec.specs.Schemas.{Schema}
use Rattle.selection.specs.answers.Answers.{AnsweredSelections, RefusedBy, refused_as}
use Rattle.selection.specs.declared.answers.Selected.{Selected}
use Rattle.table_spec.specs.Columns.{Columns, all_of_size, sizes_of}
use Rattle.table_spec.specs.Rows.{Row, Cells}
use Rattle.text.specs.declared.refusals.Reason.TheVariants.{BadRecord}
use Rattle.text.specs.declared.refusals.Refusal.{Refusal}
use Rattle.text.specs.refusals.Refusals.{refusal}
use Rattle.text_spec.specs.Calls.{tested, handed, in_room}
use Rattle.text_spec.specs.Cells.{too_small}
use Rattle.text_spec.specs.Limits.{max_nodes}
use Rattle.text_spec.specs.Records.{TextRecord}
use Rattle.text_spec.specs.Refusals.{Outcome, refused, at, bad_record}

module _ (schema bundle : TextRecord) (place : ℕ) (lent : List ℕ) (items counts : ℕ) where
  -- the outcome by the rows that the table holds
  chosen : List (LocationPath ℕ) → List Row → Outcome Selections
  chosen ps rows =
      let a = selections lent rows (asked_paths place ps) in
      in_room (too_small items a.items || too_small counts a.counts) a

  under : Schema → Option (List Row) → Outcome Selections
  under s table = handed (bundle_held s bundle) (λ ps. tested (leb place (length ps)) (handed table (chosen ps)))

  by-table : Option Schema → (Schema → Option (List Row)) → Outcome Selections
  by-table h table = handed h (λ s. under s (table s))

  called : (t : LentTable) → nodes_selected schema bundle place t lent items counts ≡ by-table (schema_held schema) (λ s. table_beside s lent t)
  unfolding nodes_selected by-table under chosen
  called t = refl

  same_by : (h : Option Schema) (f g : Schema → Option (List Row)) → ((s : Schema) → f s ≡ g s) → by-table h f ≡ by-table h g
  unfolding by-table
  same_by none f g e = refl
  same_by (some s) f g e = ap (under s) (e s)

  none-under : (s : Schema) → under s none ≡ refused (at bad_record 0)
  unfolding under
  none-under s = by (bundle_held s bundle)
    where
      tests : (b : Bool) → tested {A = Selections} b (refused (at bad_record 0)) ≡ refused (at bad_record 0)
      tests true = refl
      tests false = refl

      by : (h : Option (List (LocationPath ℕ))) → handed h (λ ps. tested (leb place (length ps)) (handed none (chosen ps))) ≡ refused (at bad_record 0)
      by none = refl
      by (some ps) = tests (leb place (length ps))

  none-by : (h : Option Schema) → by-table h (λ s. none) ≡ refused (at bad_record 0)
  unfolding by-table
  none-by none = refl
  none-by (some s) = none-under s

  -- more rows than a table can have
  pub many-refused : (rows : List Cells) → max_nodes < length rows → nodes_selected_rows schema bundle place rows lent items counts ≡ refused (at bad_record 0)
  unfolding nodes_selected_rows
  many-refused rows many =
      let t = table_of_cells rows in
      called t ∙ same_by (schema_held schema) (λ s. table_beside s lent t) (λ s. none) (λ s. none_beside s t many lent) ∙ none-by (schema_held schema)

  module _ (rows : List Cells) (r : Result Selected Refusal) (x y : List ℕ) where
    -- laid in columns
    pub selected-laid : (t c : Columns) (count : ℕ) → t ≡ c → sizes_of c ≡ all_of_size cell_count → length rows ≡ count → Laid rows c
        → AnsweredSelections (nodes_selected schema bundle place (record { columns = t; count = count }) lent items counts) items counts r x y
        → AnsweredSelections (nodes_selected_rows schema bundle place rows lent items counts) items counts r x y
    unfolding nodes_selected_rows
    selected-laid t c count e sizes long laid h =
        let given : LentTable = record { columns = c; count = count } in
        subst (λ (o : Outcome Selections). AnsweredSelections o items counts r x y)
        (called given ∙ same_by (schema_held schema) (λ s. table_beside s lent given) (λ s. table_beside s lent (table_of_cells rows)) (λ s. beside-laid c count sizes rows long laid s lent)
        ∙ sym (called (table_of_cells rows)))
        (subst (λ (d : Columns). AnsweredSelections (nodes_selected schema bundle place (record { columns = d; count = count }) lent items counts) items counts r x y) e h)

    -- more than a table can have
    pub selected-many : max_nodes < length rows → RefusedBy (refusal BadRecord 0) items counts r x y → AnsweredSelections (nodes_selected_rows schema bundle place rows lent items counts) items counts r x y
    selected-many many h = subst (λ (o : Outcome Selections). AnsweredSelections o items counts r x y) (sym (many-refused rows many)) (refused_as (refusal BadRecord 0) items counts r x y h)
